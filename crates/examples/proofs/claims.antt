-- The proofs of what specs/ states, each file named for a statement.
pub mod BatchExamples
pub mod CodeExamples
pub mod CountExamples
pub mod Edges
pub mod GrammarExamples
pub mod MachineExamples
pub mod MessageExamples
pub mod ProgramExamples
pub mod ReportExamples
pub mod Requests
pub mod SetExamples
pub mod StepExamples
pub mod TableExamples
pub mod Twelve
pub mod Utf8Edges
