-- The codes that stand for document 01's answers in C and Rust. What does not apply in a case is 0, but 255 for the field that is high.
-- Assumes nothing.
use Rattle.std.specs.Prelude.{cond, List, [], ◌∷◌, ℕ, zero, suc, eqb, get_or}
use Rattle.std.proofs.Math.Option.{Option, none, some}
use Rattle.table.specs.declared.Party.{Party}
use Rattle.table.specs.declared.Party.TheVariants.{Device, Host}
use Rattle.conversation.specs.declared.Standing.{Standing}
use Rattle.conversation.specs.declared.Standing.TheVariants.{Running, DeviceBlamed, HostBlamed}
use Rattle.conversation.specs.declared.State as M
use Rattle.conversation.specs.Counts as S
use Rattle.conversation.specs.Step.{Told, refused, blamed, forwarded}
use Rattle.conversation.specs.Due as D
use Rattle.message.specs.Message as H
use Rattle.machine.specs.Answer as F
use Rattle.conversation.specs.Warning as W
use Rattle.codes.specs.declared.messages.Head.{Head}
use Rattle.codes.specs.declared.messages.Made.{Made}
use Rattle.codes.specs.declared.steps.Started.{Started}
use Rattle.codes.specs.declared.steps.Verdict.{Verdict}
use Rattle.codes.specs.declared.steps.Turn.{Turn}
use Rattle.codes.specs.declared.fits.Fit.{Fit}
use Rattle.codes.specs.declared.warnings.Warning.{Warning}

-- ---- sides and turns

-- 0 device, 1 host; any other code is no side's
abbrev pub code_side : ℕ → Option Party
code_side zero = some Device
code_side (suc zero) = some Host
code_side (suc (suc n)) = none

abbrev pub party_code : Party → ℕ
party_code Device = 0
party_code Host = 1

-- whose turn it is: the question that got a no, or 0, and the side
abbrev pub turn_codes : D.Awaited → Turn
turn_codes (D.refused q) = record { question = q; side = 0 }
turn_codes (D.of_side side) = record { question = 0; side = party_code side }

-- ---- the state: a position, and a standing's code

-- 0 running, 1 device blamed, 2 host blamed
abbrev pub standing_code : Standing → ℕ
standing_code Running = 0
standing_code DeviceBlamed = 1
standing_code HostBlamed = 2

-- any other code is not running, either: it is read as 2
abbrev pub standing_of : ℕ → Standing
standing_of zero = Running
standing_of (suc zero) = DeviceBlamed
standing_of (suc (suc n)) = HostBlamed

abbrev pub state_of : ℕ → ℕ → M.State
state_of position standing = record { position = position; standing = standing_of standing }

-- as two bytes
abbrev pub state_bytes : M.State → List ℕ
state_bytes s = s.position ∷ standing_code s.standing ∷ []

abbrev pub state_in : List ℕ → M.State
state_in bytes = state_of (get_or bytes 0 0) (get_or bytes 1 0)

-- a conversation that is started: the question that got a no, or 0, and its state
abbrev pub started_codes : S.Started → Started
started_codes r =
    record {
      question = r.question;
      state = record { position = r.state.position; standing = standing_code r.state.standing; counts = r.counts };
    }

-- ---- the verdict of a step

-- 0 forwarded; 1 refused, with the question; 2 blamed, with the party, the reason and, with reason 3, the field
abbrev pub verdict_codes : Told → Verdict
verdict_codes forwarded = record { outcome = 0; question = 0; party = 0; reason = 0; field = 0 }
verdict_codes (refused q) = record { outcome = 1; question = q; party = 0; reason = 0; field = 0 }
verdict_codes (blamed side n none) = record { outcome = 2; question = 0; party = party_code side; reason = n; field = 0 }
verdict_codes (blamed side n (some f)) = record { outcome = 2; question = 0; party = party_code side; reason = n; field = f }

-- the last answer of a batch: 3 where none was due
abbrev pub last_codes : Option Told → Verdict
last_codes none = record { outcome = 3; question = 0; party = 0; reason = 0; field = 0 }
last_codes (some v) = verdict_codes v

-- ---- the warning of a branch

-- 65535: there is none
abbrev pub estimate_code : Option ℕ → ℕ
estimate_code none = 65535
estimate_code (some e) = e

abbrev pub sender_code : Option Party → ℕ
sender_code none = 0
sender_code (some side) = party_code side

-- the question that got a no, or 0; whether it warns, the sender, and the estimate
abbrev pub warning_codes : W.Notice → Warning
warning_codes (W.refused q) = record { question = q; warns = 0; sender = 0; estimate = estimate_code none }
warning_codes (W.tells w side e) = record { question = 0; warns = cond w 1 0; sender = sender_code side; estimate = estimate_code e }

-- ---- a message's front; a made message, and the field that is high

-- the question that got a no, or 0, and the length that is announced
abbrev pub head_codes : H.Head → Head
head_codes h = record { question = h.question; length = h.length }

-- 255: every number is low
abbrev pub named_by : ℕ → Option ℕ
named_by n = cond (eqb n 255) none (some n)

abbrev pub high_code : Option ℕ → ℕ
high_code none = 255
high_code (some f) = f

-- the question that got a no, or 0, and the length
abbrev pub made_codes : ℕ × ℕ → Made
made_codes n = record { question = n.0; length = n.1 }

-- ---- the fit check's answer

-- 0 it fits, with the number of pairs met; 1 it fails, with K and the field that is high in the last move; 2 refused, with the
-- question
abbrev pub fit_codes : F.Answer → Fit
fit_codes (F.fits c) = record { outcome = 0; question = 0; count = c; high = high_code none }
fit_codes (F.fails K h) = record { outcome = 1; question = 0; count = K; high = high_code h }
fit_codes (F.refused q) = record { outcome = 2; question = q; count = 0; high = high_code none }
