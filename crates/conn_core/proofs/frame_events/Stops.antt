-- An answer, and an end, by which a server stopped.
use Rattle.std.proofs.Common.{◌≡◌, ℕ, Result, Ok, Err, Option, Some, None, ap, subst}
use Rattle.conn_core.specs.declared.end.ConnEnd.{ConnEnd}
use Rattle.conn_core.specs.declared.end.ConnEnd.TheVariants as ends
use Rattle.conn_core.specs.declared.served.error.ServeError.{ServeError}
use Rattle.conn_core.specs.declared.served.error.ServeError.TheVariants as errors
use Rattle.conn_core.specs.declared.related.related.Carry.{Carry}
use Rattle.conn_core.specs.declared.served.serve.Reply.{Reply}
use Rattle.conn_core.specs.frame_events.Dealing.{AddsTo, EventAnswer, stop_in, stopped_by}
use Rattle.conn_core.specs.declared.frame_events.handing.Dealt.{Dealt}

or_zero : Option ℕ → ℕ
or_zero None = 0
or_zero (Some n) = n

pub stopped_is : (r : Result Reply ServeError) (count : ℕ) → stopped_by r ≡ Some count → r ≡ Err (errors.Stopped count)
unfolding or_zero
stopped_is (Ok r) count e = absurd cc
stopped_is (Err errors.Memory) count e = absurd cc
stopped_is (Err (errors.Unanswered acted)) count e = absurd cc
stopped_is (Err (errors.Stopped n)) count e = ap (λ (o : Option ℕ). Err (errors.Stopped (or_zero o))) e

abbrev pub fails : (A : Type 0) → ConnEnd → Result A ConnEnd
fails A why = Err why

end_in : {A : Type 0} → ConnEnd → Result A ConnEnd → ConnEnd
end_in d (Ok a) = d
end_in d (Err e) = e

-- an end is the same of whatever call
pub fails_too : (A B : Type 0) (why : ConnEnd) (count : ℕ) → fails A why ≡ fails A (ends.Stopped count)
    → fails B why ≡ fails B (ends.Stopped count)
unfolding end_in
fails_too A B why count e = ap (λ (r : Result A ConnEnd). fails B (end_in why r)) e

pub add_stops : (A B : Type 0) (given : EventAnswer) (old new : Dealt) (why : ConnEnd) (count : ℕ) → AddsTo {A = A} given old new (Err why)
    → fails B why ≡ fails B (ends.Stopped count) → stop_in given ≡ Some count
unfolding end_in
add_stops A B given old new why count adds e =
    let same : why ≡ ends.Stopped count = ap (λ (r : Result B ConnEnd). end_in why r) e in
    (subst (λ (w : ConnEnd). AddsTo {A = A} given old new (Err w)) same adds).0

pub adds_stop : (given : EventAnswer) (old new : Dealt) (r : Result Carry ConnEnd) (count : ℕ) → AddsTo given old new r
    → r ≡ Err (ends.Stopped count) → stop_in given ≡ Some count
adds_stop given old new r count adds e = (subst (λ (q : Result Carry ConnEnd). AddsTo given old new q) e adds).0
