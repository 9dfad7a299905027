use Rattle.std.proofs.Common.{refl}
use Rattle.access_lists.specs.Decide.{maximal}
use Rattle.access_lists.proofs.Masks.{first_left, second_left, denied_read, denied_write, denied_delete}
use Rattle.access_lists.proofs.deciding.maximal.Goals as goal

pub without-writes-requires : goal.without-writes-requires
without-writes-requires c = rw c.without-reads.ensures (first_left c.is_denied.result)

pub without-requires : goal.without-requires
without-requires c = rw (c.without-writes.ensures, c.without-reads.ensures) (second_left c.is_denied.result c.is_denied-2.result)

pub returns : goal.returns
unfolding maximal
returns c = rw (
  c.without.ensures,
  c.without-writes.ensures,
  c.without-reads.ensures,
  c.is_denied.ensures,
  c.is_denied-2.ensures,
  c.is_denied-3.ensures,
  denied_read c.args.rules.now c.args.user.now c.args.path.now,
  denied_write c.args.rules.now c.args.user.now c.args.path.now,
  denied_delete c.args.rules.now c.args.user.now c.args.path.now,
) refl
