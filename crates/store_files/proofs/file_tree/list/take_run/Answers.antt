use Rattle.std.proofs.Common.{◌≡◌, refl, sym, ap, ◌∙◌}
use Rattle.std.specs.String.{string_bytes, string_cmp}
use Rattle.std.specs.declared.ops.Bound.TheVariants.{Included, Unbounded}
use Rattle.std.specs.BTreeMap.Range.{entries_between}
use Rattle.store_files.specs.file_tree.Listed.{listing_given, any_at, listing_accepted, kids}
use Rattle.store_files.proofs.file_tree.Listings.{full_given, full_any}
use Rattle.store_files.proofs.file_tree.Passing.{run_begun, run_on, run_found, run_stopped, run_taken, run_jumped, run_behind, run_fewer}
use Rattle.store_files.proofs.file_tree.list.take_run.Goals as goal

pub loop-key-init : goal.loop-key-init
loop-key-init c =
    let i : c.into_iter-key-iterator.result ≡ entries_between string_cmp (Included c.args.start.now) Unbounded c.args.paths.now.entries =
    (let x = c.into_iter-key-iterator.ensures.into_iter_gives in let y = c.range-key-items.ensures.between tt in cc) in
    let b = run_begun (string_bytes c.args.front.now) c.args.start.now c.args.paths.now.entries
    c.into_iter-key-iterator.result i c.range-key-items.ensures.ordered in (
      tt,
      tt,
      λ names a. (
        ap (λ es. listing_given c.args.asked c.args.taken.now
            (listing_accepted c.args.asked.pattern.now (kids names (string_bytes c.args.front.now) es))) b.0,
        ap (λ es. any_at c.args.taken.now.stage (listing_accepted c.args.asked.pattern.now
            (kids names (string_bytes c.args.front.now) es))) b.0,
      ),
      b.1,
    )

pub returns-then-is_full-clause-given : goal.returns-then-is_full-clause-given
returns-then-is_full-clause-given c = λ names a l.
    let v = c.loop-key.invariant.2 names a in
    let e = sym c.is_full.ensures ∙ c.if-is_full.true in
    (full_given c.loop-key.taken.stage _ _ _ e ∙ v.0, full_any c.loop-key.taken.stage _ _ e ∙ v.1)

pub returns-then-not-starts-clause-given : goal.returns-then-not-starts-clause-given
returns-then-not-starts-clause-given c = λ names a l.
    let v = c.loop-key.invariant.2 names a in
    let b = sym (c.starts.ensures ∙ rw (c.as_str-in-loop-key.ensures.value, c.as_str.ensures.value) refl) ∙ c.if-not-starts.true in
    let n = run_stopped names (string_bytes c.args.front.now) (string_bytes c.args.start.now) c.args.paths.now.entries
    c.loop-key.key-iterator c.next.new.self c.in-Some.key.now c.in-Some.file.now c.in-Some.ensures.steps
    c.loop-key.invariant.3 l b in (
      ap (λ ns. listing_given c.args.asked c.loop-key.taken (listing_accepted c.args.asked.pattern.now ns)) (sym n) ∙ v.0,
      ap (λ ns. any_at c.loop-key.taken.stage (listing_accepted c.args.asked.pattern.now ns)) (sym n) ∙ v.1,
    )

pub returns-clause-given : goal.returns-clause-given
returns-clause-given c = λ names a l.
    let v = c.loop-key.invariant.2 names a in
    let n = ap (kids names (string_bytes c.args.front.now)) (c.in-None.ensures.steps.0) in (
      ap (λ ns. listing_given c.args.asked c.loop-key.taken (listing_accepted c.args.asked.pattern.now ns)) (sym n) ∙ v.0,
      ap (λ ns. any_at c.loop-key.taken.stage (listing_accepted c.args.asked.pattern.now ns)) (sym n) ∙ v.1,
    )

pub returns-in-Some-directory_below-clause-given : goal.returns-in-Some-directory_below-clause-given
returns-in-Some-directory_below-clause-given c = λ names a l.
    let v = c.loop-key.invariant.2 names a in
    let b = sym (c.starts.ensures ∙ rw (c.as_str-in-loop-key.ensures.value, c.as_str.ensures.value) refl) ∙ c.if-not-starts.false in
    let d = c.in-Some-directory_below.ensures in
    let j = run_jumped names (string_bytes c.args.front.now) (string_bytes c.args.start.now)
    c.in-Some-directory_below.directory.now d.1.0 (string_bytes c.in_ok-next-in-Some-directory_below.next)
    c.args.paths.now.entries c.loop-key.key-iterator c.next.new.self c.in-Some.key.now c.in-Some.file.now
    c.in-Some.ensures.steps c.loop-key.invariant.3 d.0 d.1.1 c.in_ok-next-in-Some-directory_below.ensures b in (
      ap (λ ns. listing_given c.args.asked c.loop-key.taken (listing_accepted c.args.asked.pattern.now ns)) (sym j.0) ∙ v.0,
      ap (λ ns. any_at c.loop-key.taken.stage (listing_accepted c.args.asked.pattern.now ns)) (sym j.0) ∙ v.1,
    )

pub returns-in-Some-directory_below-clause-behind : goal.returns-in-Some-directory_below-clause-behind
returns-in-Some-directory_below-clause-behind c =
    let b = sym (c.starts.ensures ∙ rw (c.as_str-in-loop-key.ensures.value, c.as_str.ensures.value) refl) ∙ c.if-not-starts.false in
    let d = c.in-Some-directory_below.ensures in
    run_behind (string_bytes c.args.front.now) c.in-Some-directory_below.directory.now d.1.0
    (string_bytes c.in-Some.key.now) (string_bytes c.in_ok-next-in-Some-directory_below.next) d.1.1
    c.in_ok-next-in-Some-directory_below.ensures b

pub returns-in-Some-directory_below-clause-fewer : goal.returns-in-Some-directory_below-clause-fewer
returns-in-Some-directory_below-clause-fewer c =
    let d = c.in-Some-directory_below.ensures in
    run_fewer (string_bytes c.args.front.now) (string_bytes c.args.start.now) c.in-Some-directory_below.directory.now
    d.1.0 (string_bytes c.in_ok-next-in-Some-directory_below.next) c.args.paths.now.entries c.loop-key.key-iterator
    c.next.new.self c.in-Some.key.now c.in-Some.file.now
    c.in-Some.ensures.steps c.loop-key.invariant.3 d.0 d.1.1 c.in_ok-next-in-Some-directory_below.ensures

pub loop-key-preserved : goal.loop-key-preserved
loop-key-preserved c =
    let v = c.loop-key.invariant in
    let front = string_bytes c.args.front.now in
    let start = string_bytes c.args.start.now in
    let all = c.args.paths.now.entries in
    let it = c.loop-key.key-iterator in
    let es = c.next.new.self in
    let key = c.in-Some.key.now in
    let file = c.in-Some.file.now in
    let steps = c.in-Some.ensures.steps in
    let b = sym (c.starts.ensures ∙ rw (c.as_str-in-loop-key.ensures.value, c.as_str.ensures.value) refl) ∙ c.if-not-starts.false in
    let found = run_found front start all it es key file steps v.3 in (
      tt,
      tt,
      λ names a. (
          let k = run_taken names front it es key file steps b c.in-None-directory_below.ensures in
          let o = c.in_ok-take_child-in-None-directory_below.ensures (names file) (a (string_bytes key) file found)
          (listing_accepted c.args.asked.pattern.now (kids names front es)) in
          let w = v.2 names a in (
            o.0 ∙ (ap (λ ns. listing_given c.args.asked c.loop-key.taken (listing_accepted c.args.asked.pattern.now ns)) (sym k) ∙ w.0),
            o.1 ∙ (ap (λ ns. any_at c.loop-key.taken.stage (listing_accepted c.args.asked.pattern.now ns)) (sym k) ∙ w.1),
          )
          ),
      run_on front start all it es key file steps v.3,
    )
