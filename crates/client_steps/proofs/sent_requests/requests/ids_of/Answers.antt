use Rattle.std.proofs.Common.{◌<◌, length, sym, ap, ◌∙◌, subst}
use Rattle.client_rows.specs.declared.operation_rows.row.Row.{Row}
use Rattle.client_tables.specs.attached_opens.Known.{IsKnownAt}
use Rattle.client_steps.proofs.sent_requests.requests.ids_of.Goals as goal

pub file_at-file-requires : goal.file_at-file-requires
file_at-file-requires c = subst (λ (r : Row). r.«open» < length c.args.opened.now) (sym c.row_of-row.ensures) c.requires.known

pub returns : goal.returns
returns c =
    let x = c.args.index in
    let opened = c.args.opened.now in
    let row = c.row_of-row.ensures in
    let f = c.file_at-file.ensures in
    record {
      guid = c.guid_of-guid.ensures;
      file = λ d s. s.file_is x f.0 c.requires.above c.requires.within (subst (λ (r : Row). IsKnownAt opened r.«open» f.0) row f.1)
          ∙ sym f.2;
      slot = λ d s. s.rows.sends.slot_is x ∙ sym (ap (λ (r : Row). r.slot) row);
      number = λ d s. s.rows.sends.number_is x ∙ sym (ap (λ (r : Row). r.slot_number) row);
    }
