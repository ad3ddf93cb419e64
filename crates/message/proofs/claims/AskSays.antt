-- Document 01's example: `Ask` with the int 100.
-- Assumes nothing.
use Rattle.std.proofs.Common.{refl}
use Rattle.table.specs.Lists.{every}
use Rattle.utf8.specs.Utf8.{octets, is_utf8}
use Rattle.table.specs.Table.{within_kind, upper, letter_or_digit, label_rest, legal_label}
use Rattle.message.specs.Message.{number_of, first_number, pair_up, count_of, values_of, read, text_bytes, announced, whole, cut_up, texts_of, legal_value, legal_values, exact, legal_texts, well_formed}
use Rattle.message.specs.MessageTheorems.{AskSays}

pub ask_says : AskSays
unfolding every within_kind upper letter_or_digit label_rest legal_label number_of first_number pair_up count_of values_of read text_bytes
    announced cut_up texts_of whole legal_value legal_values exact octets is_utf8 legal_texts well_formed
ask_says = record { formed = refl; says = refl }
