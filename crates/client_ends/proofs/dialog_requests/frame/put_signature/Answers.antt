use Rattle.std.proofs.Common.{List, ℕ, ◌++◌, take}
use Rattle.std.proofs.lemmas.List.{drop-drop}
use Rattle.client_ends.proofs.dialog_requests.frame.put_signature.Goals as goal

pub returns : goal.returns
returns c =
    let m : List ℕ = c.args.message.now in
    let rest = drop-drop 16 48 m in
    λ t. take 48 m ++ (c.copy_from_slice.ensures.after t ++ rest t)
