use Rattle.server_core.proofs.Openings.{version_2, no_version}
use Rattle.server_core.proofs.epoch.versions.Goals as goal

pub returns-then-version-ne1 : goal.returns-then-version-ne1
returns-then-version-ne1 c = no_version c.args.version c.new-records.result c.if-version-ne1.true c.new-records.ensures

pub returns : goal.returns
returns c = version_2 c.args.version c.new-records.result c.push.new.self c.if-version-ne1.false c.new-records.ensures
    c.in_ok-push.ensures.ok
