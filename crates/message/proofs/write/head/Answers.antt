-- `message::write::head`: eight bytes, and one more.
use Rattle.std.proofs.Common.{[], ◌∷◌, ◌++◌, length, ap, ◌∙◌}
use Rattle.message.specs.inner.Layout.{put_at}
use Rattle.message.proofs.laws.Layout.{put_head, label_bytes_high_first}
use Rattle.message.proofs.write.head.Goals as goal

pub returns : goal.returns
returns c =
    let a = c.args in
    let copied = c.copy_from_slice.ensures.after ∙ c.to_be_bytes.ensures in
    put_head a.out.now c.copy_from_slice.new.self 8 a.count (ap length copied) c.requires
    ∙ ap (λ l. put_at 0 (l ++ (a.count ∷ [])) a.out.now) (copied ∙ label_bytes_high_first a.label)
