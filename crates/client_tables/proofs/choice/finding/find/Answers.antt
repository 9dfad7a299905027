use Rattle.std.proofs.Common.{◌<◌, subst, sym}
use Rattle.client_tables.proofs.choice.Telling.{bounded_alike, opens_alike, shows_alike, tells_from}
use Rattle.client_tables.proofs.choice.finding.find.Goals as goal

pub judge_from-requires : goal.judge_from-requires
judge_from-requires c =
    let a = c.choose_from.ensures.alike in
    record {
      above = c.requires.above;
      within = subst (λ n. c.in-Some.index < n) (sym a.count) c.in-Some.ensures.inside;
      opens = opens_alike c.args.rows.now c.choose_from.new.rows c.args.opens.now a c.requires.opens;
      bounded = bounded_alike c.args.rows.now c.choose_from.new.rows c.args.opens.now a c.requires.bounded;
    }

pub returns-in-None : goal.returns-in-None
returns-in-None c =
    record {
      alike = c.choose_from.ensures.alike;
      safe = c.choose_from.ensures.safe;
      counts = c.choose_from.ensures.counts;
      inside = tt;
      shown = c.choose_from.ensures.shown;
      opens = λ d o. shows_alike c.args.rows.now c.choose_from.new.rows c.args.opens.now c.choose_from.ensures.alike
          c.args.session.now d o;
      told = λ d k slotless s o i r m e. c.in-None.ensures.none d k m slotless s i e;
    }

pub returns-in-Some : goal.returns-in-Some
returns-in-Some c =
    let a = c.choose_from.ensures.alike in
    record {
      alike = a;
      safe = c.choose_from.ensures.safe;
      counts = c.choose_from.ensures.counts;
      inside = c.judge_from.ensures.inside;
      shown = c.choose_from.ensures.shown;
      opens = λ d o. shows_alike c.args.rows.now c.choose_from.new.rows c.args.opens.now a c.args.session.now d o;
      told = λ d k slotless s o i r. tells_from d k c.args.credits c.args.start c.in-Some.index slotless c.judge_from.result
          (λ x n e f. c.in-Some.ensures.some d k x n slotless s i r e f) (c.judge_from.ensures.some (c.in-Some.ensures.behind d s))
          (c.in-Some.ensures.goes d s)
          (c.judge_from.ensures.told d c.args.holders.now c.choose_from.new.prices c.choose_from.new.watchers k c.args.credits slotless
          (c.choose_from.ensures.shown d s)
          (shows_alike c.args.rows.now c.choose_from.new.rows c.args.opens.now a c.args.session.now d o) i r
          (c.in-Some.ensures.goes d s) (c.in-Some.ensures.behind d s));
    }
