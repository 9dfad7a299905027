use Rattle.std.proofs.Common.{◌∙◌, ◌++◌, List, ℕ, take, ap}
use Rattle.std.proofs.lemmas.List.{drop-drop}
use borrow.Rule.Slice.PartMut.{put_mid}
use Rattle.conn_core.proofs.reply_sealing.putting.put_signature.Goals as goal

pub returns : goal.returns
returns c =
    let m : List ℕ = c.args.message.now in
    ap (λ (ys : List ℕ). put_mid 48 16 m ys) c.copy_from_slice.ensures.after
    ∙ ap (λ (rest : List ℕ). take 48 m ++ (c.args.signature.now ++ rest)) (drop-drop 16 48 m)
