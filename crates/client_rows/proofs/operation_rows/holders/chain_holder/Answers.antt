use Rattle.std.proofs.Common.{sym, ap, ◌∙◌}
use Rattle.client_values.specs.declared.operations.shapes.Kind.{Kind}
use Rattle.client_rows.specs.operation_rows.Rows.{owner, kind}
use Rattle.client_rows.specs.operation_rows.Holding.{on_chain, on_changes, on_filled, holding_on_open}
use Rattle.client_rows.proofs.operation_rows.Holding.{fits_all, fits_changes, fits_filled, holder_by}
use Rattle.client_rows.proofs.operation_rows.holders.chain_holder.Goals as goal

pub returns-in-End-clause-some : goal.returns-in-End-clause-some
returns-in-End-clause-some c = λ holds fills f p.
    holder_by holds fills c.args.rows.now (on_changes (owner c.args.rows.now) (kind c.args.rows.now)) c.highest_below.result c.args.index f
    (ap (λ (k : Kind). on_chain k (owner c.args.rows.now) (kind c.args.rows.now) fills c.highest_below.result c.args.index) c.in-End.is)
    (c.highest_below.ensures.some (on_changes (owner c.args.rows.now) (kind c.args.rows.now)) f.changing p)

pub returns-in-End-clause-none : goal.returns-in-End-clause-none
returns-in-End-clause-none c = λ holds fills f z h p l o.
    c.highest_below.ensures.none (on_changes (owner c.args.rows.now) (kind c.args.rows.now)) f.changing z h p l
    (sym (ap (λ (k : Kind). on_chain k (owner c.args.rows.now) (kind c.args.rows.now) fills h c.args.index) c.in-End.is) ∙ o)

pub returns-in-End-clause-fits : goal.returns-in-End-clause-fits
returns-in-End-clause-fits c = λ holds fills holders f.
    fits_changes holds fills c.args.rows.now c.highest_below.new.rows holders c.highest_below.ensures.same c.highest_below.ensures.chained f

pub returns-in-Change-clause-some : goal.returns-in-Change-clause-some
returns-in-Change-clause-some c = λ holds fills f p.
    holder_by holds fills c.args.rows.now (on_changes (owner c.args.rows.now) (kind c.args.rows.now))
    c.highest_below-in-Change.result c.args.index f
    (ap (λ (k : Kind). on_chain k (owner c.args.rows.now) (kind c.args.rows.now) fills c.highest_below-in-Change.result
    c.args.index) c.in-Change.is)
    (c.highest_below-in-Change.ensures.some (on_changes (owner c.args.rows.now) (kind c.args.rows.now)) f.changing p)

pub returns-in-Change-clause-none : goal.returns-in-Change-clause-none
returns-in-Change-clause-none c = λ holds fills f z h p l o.
    c.highest_below-in-Change.ensures.none (on_changes (owner c.args.rows.now) (kind c.args.rows.now)) f.changing z h p l
    (sym (ap (λ (k : Kind). on_chain k (owner c.args.rows.now) (kind c.args.rows.now) fills h c.args.index) c.in-Change.is) ∙ o)

pub returns-in-Change-clause-fits : goal.returns-in-Change-clause-fits
returns-in-Change-clause-fits c = λ holds fills holders f.
    fits_changes holds fills c.args.rows.now c.highest_below-in-Change.new.rows holders
    c.highest_below-in-Change.ensures.same c.highest_below-in-Change.ensures.chained f

pub returns-in-Look-clause-some : goal.returns-in-Look-clause-some
returns-in-Look-clause-some c = λ holds fills f p.
    holder_by holds fills c.args.rows.now (on_filled (owner c.args.rows.now) fills) c.highest_below-in-Look.result c.args.index f
    (ap (λ (k : Kind). on_chain k (owner c.args.rows.now) (kind c.args.rows.now) fills c.highest_below-in-Look.result
    c.args.index) c.in-Look.is)
    (c.highest_below-in-Look.ensures.some (on_filled (owner c.args.rows.now) fills) f.filling p)

pub returns-in-Look-clause-none : goal.returns-in-Look-clause-none
returns-in-Look-clause-none c = λ holds fills f z h p l o.
    c.highest_below-in-Look.ensures.none (on_filled (owner c.args.rows.now) fills) f.filling z h p l
    (sym (ap (λ (k : Kind). on_chain k (owner c.args.rows.now) (kind c.args.rows.now) fills h c.args.index) c.in-Look.is) ∙ o)

pub returns-in-Look-clause-fits : goal.returns-in-Look-clause-fits
returns-in-Look-clause-fits c = λ holds fills holders f.
    fits_filled holds fills c.args.rows.now c.highest_below-in-Look.new.rows holders
    c.highest_below-in-Look.ensures.same c.highest_below-in-Look.ensures.chained f

pub returns-in-Close-clause-some : goal.returns-in-Close-clause-some
returns-in-Close-clause-some c = λ holds fills f p.
    holder_by holds fills c.args.rows.now (holding_on_open (owner c.args.rows.now)) c.highest_below-in-Close.result c.args.index f
    (ap (λ (k : Kind). on_chain k (owner c.args.rows.now) (kind c.args.rows.now) fills c.highest_below-in-Close.result
    c.args.index) c.in-Close.is)
    (c.highest_below-in-Close.ensures.some (holding_on_open (owner c.args.rows.now)) f.opens p)

pub returns-in-Close-clause-none : goal.returns-in-Close-clause-none
returns-in-Close-clause-none c = λ holds fills f z h p l o.
    c.highest_below-in-Close.ensures.none (holding_on_open (owner c.args.rows.now)) f.opens z h p l
    (sym (ap (λ (k : Kind). on_chain k (owner c.args.rows.now) (kind c.args.rows.now) fills h c.args.index) c.in-Close.is) ∙ o)

pub returns-in-Close-clause-fits : goal.returns-in-Close-clause-fits
returns-in-Close-clause-fits c = λ holds fills holders f.
    fits_all holds fills c.args.rows.now c.highest_below-in-Close.new.rows holders c.highest_below-in-Close.ensures.same
    c.highest_below-in-Close.ensures.chained f
