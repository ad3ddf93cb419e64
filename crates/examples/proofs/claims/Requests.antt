-- Document 02's examples hold. Assumes nothing.
use mathlib.Core.Path.{refl}
use mathlib.Core.List.{[]}
use mathlib.Core.Option.{none}
use Rattle.utf8.specs.Utf8.{within, utf8_char, some_row, octets, is_utf8}
use Rattle.table.specs.Ascii.{ascii}
use Rattle.table.specs.Lists.{first_no, every}
use Rattle.table.specs.Table.{within_kind, upper, letter_or_digit, label_rest, legal_label}
use Rattle.message.specs.Message.{number_of, first_number, pair_up, count_of, values_of, text_bytes, announced, cut_up, texts_of, whole, legal_value, legal_values, exact, legal_texts, refusal}
use Rattle.grammar.proofs.laws.Reads.{read_sound}
use Rattle.conversation.specs.Counts.{legal_setting}
use Rattle.conversation.specs.Warning.{difference, square, warns, rounded, estimate}
use Rattle.conversation.proofs.claims.EstimateNearest.{warning_examples}
use Rattle.message.specs.Make.{opening}
use Rattle.table.specs.declared.Party.TheVariants.{Device, Host}
use Rattle.conversation.specs.declared.Standing.TheVariants.{Running, HostBlamed}
use Rattle.examples.specs.Twelve.{ask, ok}
use Rattle.examples.specs.Requests.{NamesAfterRec, SharesRead, shared_text, halves_text, unshared_text, SharesWarn, TextsAsked, Q, EditionsRead, EarlyOk}
use Rattle.examples.proofs.laws.StepsOfP.{asks_by, asks_100, ok_early, ok_no_room, ok_broken}
use Rattle.examples.proofs.laws.FirstStep.{first_refused, first_blamed, first_forwarded}
use Rattle.examples.proofs.laws.Noticed.{of_first, of_second, of_third, of_none}
use Rattle.examples.proofs.laws.TablesRead as R

pub names_after_rec : NamesAfterRec
names_after_rec = (R.read).names_after_rec

pub shares_read : SharesRead
shares_read =
    record {
      with_shares = ((R.read).shared.is_read, (R.read).shared.seen);
      sound = read_sound (ascii shared_text) (R.read).shared.is_read;
      no_sum = (R.read).no_sum;
      mixed = (R.read).mixed;
      no_share = (R.read).no_share;
      no_number = (R.read).no_number;
      warnings = warning_examples;
    }

pub shares_warn : SharesWarn
unfolding legal_setting warns square difference rounded estimate
shares_warn =
    let shared = (R.read).shared in
    let halves = (R.read).halves in
    let unshared = (R.read).unshared in
    record {
      example = (of_first shared_text 10 990 shared 442 6 2 4 refl, of_second shared_text 10 990 shared 442 6 2 4 refl);
      edge = (of_first halves_text 500 500 halves 200 4 4 0 refl, of_second halves_text 500 500 halves 200 4 4 0 refl);
      past_edge = (of_first halves_text 500 500 halves 199 4 4 0 refl, of_second halves_text 500 500 halves 199 4 4 0 refl);
      none_yet = of_first halves_text 500 500 halves 1 0 0 0 refl;
      never = (of_first unshared_text 0 0 unshared 1 10000 10000 0 refl, of_second unshared_text 0 0 unshared 1 10000 10000 0 refl);
      no_branch = of_third shared_text 10 990 shared 442 6 2 4 refl;
      no_sum = of_none shared_text 10 990 shared 442 6 2 3 refl 2;
    }

pub texts_asked : TextsAsked
unfolding first_no every within_kind upper letter_or_digit label_rest legal_label number_of first_number pair_up count_of values_of text_bytes
    announced cut_up texts_of whole legal_value legal_values exact legal_texts refusal within utf8_char some_row octets is_utf8
texts_asked =
    record {
      well_formed_texts = refl;
      cut_between = refl;
      cut_at_the_end = refl;
      other_encoding = refl;
      nul_and_mark = refl;
      too_short = refl;
    }

pub editions_read : EditionsRead
editions_read = (R.read).editions_read

pub early_ok : EarlyOk
early_ok =
    let Q_states = (R.read).Q_reads.1 in
    let Q_view = (R.read).Q_view in
    record {
      reads_Q = (R.read).Q_reads.0;
      early = λ out room. first_blamed Q R.Q_sound Host ok out Host 4 none 0 HostBlamed (ok_early Q R.Q_sound Q_states Q_view out room);
      no_room = λ out short. first_refused Q R.Q_sound Host ok out 16 0 Running (ok_no_room Q R.Q_sound Q_states Q_view out short);
      broken = λ out. first_refused Q R.Q_sound Host [] out 13 0 Running (ok_broken Q R.Q_sound Q_states Q_view out);
      in_turn = λ out room.
          first_forwarded Q R.Q_sound Device (ask 100) out 1 Running (opening (ask 100) out) (asks_by Q 2 R.Q_sound Q_states Q_view)
          (asks_100 Q 2 R.Q_sound Q_states Q_view out room);
    }
