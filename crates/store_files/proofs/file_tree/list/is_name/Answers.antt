use Rattle.std.proofs.Common.{◌≡◌, Bool, true, false, not, ◌&&◌, ◌∷◌, [], sym, ap, ◌∙◌}
use Rattle.std.specs.Str.{bytes_eq}
use Rattle.store_files.proofs.file_tree.Listings.{rank_dots}
use Rattle.store_files.proofs.file_tree.list.is_name.Goals as goal

pub returns-then-ne : goal.returns-then-ne
returns-then-ne c =
    let n = c.args.name.now in
    let a : not (bytes_eq n (46 ∷ [])) ≡ true = sym c.ne.ensures ∙ c.if-ne.true in
    c.ne-then-ne.ensures ∙ sym (rank_dots n ∙ ap (λ (b : Bool). b && not (bytes_eq n (46 ∷ 46 ∷ []))) a)

pub returns-else-ne : goal.returns-else-ne
returns-else-ne c =
    let n = c.args.name.now in
    let a : not (bytes_eq n (46 ∷ [])) ≡ false = sym c.ne.ensures ∙ c.if-ne.false in
    c.if-ne.false ∙ sym (rank_dots n ∙ ap (λ (b : Bool). b && not (bytes_eq n (46 ∷ 46 ∷ []))) a)
