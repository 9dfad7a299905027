use Rattle.std.proofs.Common.{ap, Result, Ok, Err, OnErr}
use Rattle.client_values.specs.declared.operations.values.OpKind.{OpKind}
use Rattle.client_values.specs.operations.Waiting.{kind_of}
use Rattle.client_values.specs.operations.Meaning.{op_of}
use Rattle.client_values.proofs.commands.telling.value_in.Goals as goal

on_err : {T E P : Type 0} (r : Result T E) → P → OnErr r P
on_err (Ok x) p = tt
on_err (Err e) p = p

pub returns-in-List-clause-lacks : goal.returns-in-List-clause-lacks
returns-in-List-clause-lacks c = on_err c.listing_in.result (ap (λ (z : OpKind). kind_of (op_of z)) c.in-List.is)
