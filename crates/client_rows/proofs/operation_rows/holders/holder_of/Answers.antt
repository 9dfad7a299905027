use Rattle.client_rows.proofs.operation_rows.Columns.{alike_end}
use Rattle.client_rows.proofs.operation_rows.Holding.{Drops, create_holds, fits_dropped, none_found, safe_dropped}
use Rattle.client_rows.proofs.operation_rows.Finding.{holder_of_old}
use Rattle.client_rows.proofs.operation_rows.Found.{chain_old, chains_dropped, chains_of, listed_some}
use Rattle.client_rows.proofs.operation_rows.holders.holder_of.Goals as goal

pub returns-then-waits_for_create-clause-some : goal.returns-then-waits_for_create-clause-some
returns-then-waits_for_create-clause-some c = λ holds fills f p.
    let e = c.waits_for_create.ensures.yes c.if-waits_for_create.true in
    create_holds holds fills c.args.rows.now c.args.holders.now c.args.index f e.0 e.1

pub returns-then-listed-ne0-clause-some : goal.returns-then-listed-ne0-clause-some
returns-then-listed-ne0-clause-some c = λ holds fills f p.
    let e = c.listed_holder-listed.ensures in
    listed_some holds fills c.args.rows.now c.listed_holder-listed.new.rows c.args.holders.now c.args.index
    c.listed_holder-listed.result f (e.inside p) e.fewer (e.is p) (e.found p)

pub returns-then-listed-ne0-clause-fits : goal.returns-then-listed-ne0-clause-fits
returns-then-listed-ne0-clause-fits c = λ holds fills f first.
    let e = c.listed_holder-listed.ensures in
    let d : Drops c.args.rows.now c.listed_holder-listed.new.rows c.args.holders.now c.args.index
    = record { same = e.same; fewer = e.fewer; settled = e.settled } in
    fits_dropped holds fills c.args.rows.now c.listed_holder-listed.new.rows c.args.holders.now c.args.index d first f

pub returns-clause-safe : goal.returns-clause-safe
returns-clause-safe c =
    let e = c.listed_holder-listed.ensures in
    let d : Drops c.args.rows.now c.listed_holder-listed.new.rows c.args.holders.now c.args.index
    = record { same = e.same; fewer = e.fewer; settled = e.settled } in
    c.chain_holder.ensures.safe c.args.holders.now (safe_dropped c.args.rows.now c.listed_holder-listed.new.rows
    c.args.holders.now c.args.index d e.least c.requires.safe)

pub returns-clause-some : goal.returns-clause-some
returns-clause-some c = λ holds fills f p.
    let e = c.listed_holder-listed.ensures in
    let old = c.args.rows.now in
    let mid = c.listed_holder-listed.new.rows in
    holder_of_old holds old mid c.chain_holder.result c.args.index (alike_end old mid c.args.index e.same)
    (c.chain_holder.ensures.some holds fills
    (chains_dropped holds fills old mid c.args.index e.same (chains_of holds fills old c.args.holders.now f)) p)

pub returns-clause-none : goal.returns-clause-none
returns-clause-none c = λ holds fills f first z.
    let e = c.listed_holder-listed.ensures in
    let old = c.args.rows.now in
    let mid = c.listed_holder-listed.new.rows in
    let d : Drops c.args.rows.now c.listed_holder-listed.new.rows c.args.holders.now c.args.index
    = record { same = e.same; fewer = e.fewer; settled = e.settled } in
    none_found holds fills old mid c.args.holders.now c.args.index f first d (e.none c.if-listed-ne0.false)
    (c.waits_for_create.ensures.no c.if-waits_for_create.false)
    (chain_old fills old mid c.args.index (alike_end old mid c.args.index e.same)
    (c.chain_holder.ensures.none holds fills
    (chains_dropped holds fills old mid c.args.index e.same (chains_of holds fills old c.args.holders.now f)) z))

pub returns-clause-fits : goal.returns-clause-fits
returns-clause-fits c = λ holds fills f first.
    let e = c.listed_holder-listed.ensures in
    let d : Drops c.args.rows.now c.listed_holder-listed.new.rows c.args.holders.now c.args.index
    = record { same = e.same; fewer = e.fewer; settled = e.settled } in
    c.chain_holder.ensures.fits holds fills c.args.holders.now
    (fits_dropped holds fills c.args.rows.now c.listed_holder-listed.new.rows c.args.holders.now c.args.index d first f)
