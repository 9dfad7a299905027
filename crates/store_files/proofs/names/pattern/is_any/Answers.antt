use Rattle.store_files.proofs.names.Patterns.{short_accepts, star_only}
use Rattle.store_files.proofs.names.pattern.is_any.Goals as goal

pub returns-in-empty-clause-any : goal.returns-in-empty-clause-any
returns-in-empty-clause-any c = λ t name. short_accepts c.args.pattern.now name c.in-empty.len_below

pub returns-in-len1-clause-any : goal.returns-in-len1-clause-any
returns-in-len1-clause-any c = λ t name. star_only c.args.pattern.now name c.in-len1.len_at_least c.in-len1.len_below t
