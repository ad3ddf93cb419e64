-- What a batch passed, as codes. It need not be believed: a law ties it to Calls (sojimu/proofs/laws/Parts).
-- Assumes nothing.
use Rattle.std.specs.Prelude.{[], ◌∷◌}
use Rattle.conversation.specs.declared.batch.Passed.{Passed}
use Rattle.conversation.specs.Batch.{last_of}
use Rattle.codes.specs.declared.batches.Batch.{Batch}
use Rattle.codes.specs.Codes.{last_codes}

-- what a batch passed, and its last answer
unfoldable pub passed_codes : Passed → Batch
passed_codes p =
    record {
      used_device = p.device.used;
      used_host = p.host.used;
      written_to_device = p.host.written;
      written_to_host = p.device.written;
      last = last_codes (last_of p.last);
      reserved = 0 ∷ 0 ∷ 0 ∷ [];
    }
