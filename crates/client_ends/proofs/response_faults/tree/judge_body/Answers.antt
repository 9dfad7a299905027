use Rattle.std.proofs.Common.{sym, ◌∙◌}
use Rattle.client_ends.proofs.response_faults.Trees.{tree_signed, tree_unread}
use Rattle.client_ends.proofs.response_faults.tree.judge_body.Goals as goal

pub returns-then-reads : goal.returns-then-reads
returns-then-reads c = λ g n s has is status fits.
    tree_signed g c.args.line.now n c.args.header c.args.m.now c.judge_signed.result has is status fits
    (sym c.tree_reads-reads.ensures ∙ c.if-reads.true) s.1 c.judge_signed.ensures

pub returns-else-reads : goal.returns-else-reads
returns-else-reads c = λ g n s has is status fits.
    tree_unread g n c.args.header c.args.m.now has is status fits (sym c.tree_reads-reads.ensures ∙ c.if-reads.false)
