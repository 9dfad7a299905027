use Rattle.std.proofs.Common.{◌≡◌, ℕ, ◌<◌, List, [], ◌∷◌, ◌++◌, length, refl, ap, sym, ◌∙◌, subst, arith, inl}
use Rattle.std.proofs.lemmas.Grind.{common_steps}
use Rattle.client_steps.proofs.taking.First.{empty_of, some_there}
use Rattle.client_steps.proofs.first_row.First.{ascends_first, ascends_same}
use Rattle.client_steps.proofs.first_row.starting.start_rows.Goals as goal

pub returns-then-not-is_empty : goal.returns-then-not-is_empty
returns-then-not-is_empty c =
    let t = c.args.table.now in
    let k : length t.rows.items ≡ t.rows.len = grind (arith, common_steps) in
    record {
      fits = c.requires.fits;
      later = c.requires.later;
      some = subst (λ n. 0 < n) (sym k) (some_there t.rows.len (sym c.is_empty.ensures ∙ c.if-not-is_empty.true));
      rows = inl refl;
      shown = λ d s. s;
    }

pub returns-in_err-reserve-clause-later : goal.returns-in_err-reserve-clause-later
returns-in_err-reserve-clause-later c =
    let rows = c.args.table.now.rows.items in
    ascends_same rows rows c.args.later.now.items c.reserve.new.self.items refl c.reserve.ensures.items c.requires.later

pub returns-in_err-reserve-clause-rows : goal.returns-in_err-reserve-clause-rows
returns-in_err-reserve-clause-rows c = inl refl

pub returns-in_err-reserve-clause-shown : goal.returns-in_err-reserve-clause-shown
returns-in_err-reserve-clause-shown c = λ d s. s

pub make_first-requires : goal.make_first-requires
make_first-requires c = record { fits = c.requires.fits }

pub returns-in_err-make_first-clause-later : goal.returns-in_err-make_first-clause-later
returns-in_err-make_first-clause-later c =
    ascends_same c.args.table.now.rows.items c.make_first.new.table.rows.items c.args.later.now.items c.reserve.new.self.items
    c.in_err-make_first.ensures.same c.reserve.ensures.items c.requires.later

pub returns-in_err-make_first-clause-rows : goal.returns-in_err-make_first-clause-rows
returns-in_err-make_first-clause-rows c = c.make_first.ensures.rows

pub returns-in_err-make_first-clause-shown : goal.returns-in_err-make_first-clause-shown
returns-in_err-make_first-clause-shown c = c.make_first.ensures.shown

pub push_reserved-requires : goal.push_reserved-requires
push_reserved-requires c = let h = c.in_ok-reserve.ensures.ok in omega arith

pub returns : goal.returns
returns c =
    let t = c.args.table.now in
    let e = c.make_first.ensures in
    let later = c.args.later.now.items in
    let k : length t.rows.items ≡ t.rows.len = grind (arith, common_steps) in
    let none = empty_of t.rows.items t.rows.len k (sym c.is_empty.ensures ∙ c.if-not-is_empty.false) in
    let some = c.in_ok-make_first.ensures.some in
    let made : c.push_reserved.new.self.items ≡ later ++ 0 ∷ [] = c.push_reserved.ensures.items
    ∙ ap (λ (xs : List ℕ). xs ++ 0 ∷ []) c.reserve.ensures.items in
    record {
      fits = e.fits;
      later = ascends_first t.rows.items c.make_first.new.table.rows.items later c.push_reserved.new.self.items none e.rows some
          c.requires.later made;
      some = some;
      rows = e.rows;
      shown = e.shown;
    }
