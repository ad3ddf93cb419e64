-- Under every edition of the protocol the machine is safe or not alike, and the device's is not looked at.
-- Assumes nothing.
use mathlib.Core.Path.{refl}
use Rattle.machine.specs.Machine.{by_side, effect, arrived, fresh_machine, after, while_running, does, move, play, run, DeviceEditionUnseen, EditionUnseen}
use Rattle.machine.proofs.laws.Edition.{fewest_back, safe_back, shortest_on, unsafe_on}

pub edition_unseen : EditionUnseen
edition_unseen D P d p e =
    let a = d.edition in
    let f = p.edition in
    record {
      safe = (safe_back d p a a e f, safe_back d p a a f e);
      unsafe = (unsafe_on d p a a f e, unsafe_on d p a a e f);
      fewest = λ K. (fewest_back d p a a e f K, fewest_back d p a a f e K);
      shortest = λ K vs. (shortest_on d p a f e K vs, shortest_on d p a e f K vs);
    }

pub device_edition_unseen : DeviceEditionUnseen
unfolding run play fresh_machine move does after arrived effect by_side while_running
device_edition_unseen D P d p e vs = refl
