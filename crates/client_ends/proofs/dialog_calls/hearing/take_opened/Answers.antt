use Rattle.std.proofs.Common.{ℕ, ◌<◌, ◌^◌, List, length, Some, sym, subst}
use Rattle.spec_exchange.specs.Client.{AskedTree}
use Rattle.spec_world.specs.Dialog.{response_in}
use Rattle.client_ends.specs.dialog_calls.Turning.{HearsMessage}
use Rattle.client_ends.proofs.dialog_calls.hearing.take_opened.Goals as goal

pub take_tree-requires : goal.take_tree-requires
take_tree-requires c = subst (λ (x : List ℕ). length x < 2 ^ 60) (sym c.as_slice.ensures) c.requires

pub returns : goal.returns
returns c = λ n number s.
    subst (λ (x : List ℕ). HearsMessage AskedTree c.args.d.now n (response_in (Some x)) number c.take_tree.new.d c.take_tree.result)
    c.as_slice.ensures (c.take_tree.ensures n number s)
