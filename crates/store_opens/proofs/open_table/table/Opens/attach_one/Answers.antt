use Rattle.std.proofs.Common.{refl, ◌∙◌, nat_eq}
use Rattle.std.specs.HashMap.{get}
use Rattle.store_opens.specs.open_index.Keep.{lists_plain}
use Rattle.store_opens.proofs.open_table.Moved.{open_attached}
use Rattle.store_opens.proofs.open_table.Same.{plain_more}
use Rattle.store_opens.proofs.open_table.table.Opens.attach_one.Goals as goal

pub returns-clause-shows : goal.returns-clause-shows
returns-clause-shows c = λ s h st.
    let t = c.args.self.now in
    let x = c.args.session in
    let o = c.args.id in
    open_attached t (record t {
      rows = c.attach_row-guid.new.rows;
      sessions = c.attach_in.new.sessions;
      deadlines = c.forget.new.self;
    }) o x c.args.tree c.args.sequence s
    (record {
      rows = c.attach_row-guid.ensures.rows;
      len = c.attach_row-guid.ensures.len;
      counted = c.attach_in.ensures.counted;
      here = λ g e. c.attach_in.ensures.here g (c.attach_row-guid.ensures.guid ∙ e);
      listed = c.attach_in.ensures.counted.listed x o c.requires.1;
      plain = plain_more (get nat_eq t.rows o) (lists_plain (get nat_eq t.sessions x) o)
          (lists_plain (get nat_eq c.attach_in.new.sessions x) o) (c.attach_in.ensures.counted.plain x o) c.requires.2;
      guids = refl;
      files = refl;
      undated = refl;
      epoch = refl;
      given = refl;
      expired = refl;
      expired_count = refl;
      whole = c.forget.ensures.whole;
      index = λ q d n k. c.forget.ensures.others q d n k;
    }) h st
