use Rattle.std.proofs.Common.{◌≡◌, ◌+◌, ◌<◌, false, ap, sym, subst, ◌∙◌, arith}
use Rattle.base_lists.specs.number_set.Members.{has}
use Rattle.base_lists.proofs.number_set.Swapping.{on_err}
use Rattle.base_lists.proofs.number_set.Members.push.Goals as goal

pub add-requires : goal.add-requires
add-requires c =
    let few = c.requires.few in
    let e = c.reserve.ensures.size in
    record { fits = c.reserve.ensures.fits; few = omega arith; room = c.in_ok-reserve.ensures.room }

pub returns : goal.returns
returns c =
    let r = c.reserve.ensures in
    let a = c.add.ensures in
    record {
      fits = a.fits;
      ok = a.size ∙ ap (λ n. n + 1) r.size;
      err = tt;
      count = a.count ∙ r.count;
      has = λ g l. a.has g (subst (λ n. g < n) (sym r.size) l) ∙ r.has g;
      apart = subst (λ n. has c.add.new.self n ≡ false) r.size a.apart;
      members = λ i l. a.members i (subst (λ n. i < n) (sym r.count) l) ∙ r.members i;
    }

pub returns-in_err-reserve-clause-err : goal.returns-in_err-reserve-clause-err
returns-in_err-reserve-clause-err c = on_err c.from_residual.result c.reserve.ensures.size

pub returns-in_err-reserve-clause-has : goal.returns-in_err-reserve-clause-has
returns-in_err-reserve-clause-has c = λ g l. c.reserve.ensures.has g

pub returns-in_err-reserve-clause-members : goal.returns-in_err-reserve-clause-members
returns-in_err-reserve-clause-members c = λ i l. c.reserve.ensures.members i
