use Rattle.std.proofs.Common.{length, nat_le, nat_lt, sym, ◌∙◌}
use Rattle.wire_commands.specs.values.Meaning.{create_of}
use Rattle.spec_exchange.specs.CheckCreate.{is_counted_out, last_file, makes_file, max_files, max_opens}
use Rattle.spec_exchange.specs.Opens.{max_ids}
use Rattle.server_checks.proofs.Creates.{files_out, none_out, opens_out}
use Rattle.server_checks.proofs.tables.Tables.is_counted_out.Goals as goal

pub returns-then-has_no_open_left : goal.returns-then-has_no_open_left
unfolding is_counted_out
returns-then-has_no_open_left c = λ s t. opens_out (nat_le max_opens (length s.opens)) (makes_file
    (create_of c.args.request.now) c.args.found)
    (nat_le max_files (length s.entries)) (nat_le max_ids s.open_ids_given) (nat_lt last_file s.next_file)
    (sym (c.has_no_open_left.ensures s t) ∙ c.if-has_no_open_left.true)

pub returns-then-makes_file : goal.returns-then-makes_file
unfolding is_counted_out
returns-then-makes_file c = λ s t. c.has_no_file_left.ensures s t
    ∙ files_out (nat_le max_opens (length s.opens)) (makes_file (create_of c.args.request.now) c.args.found)
    (nat_le max_files (length s.entries)) (nat_le max_ids s.open_ids_given) (nat_lt last_file s.next_file)
    (sym (c.has_no_open_left.ensures s t) ∙ c.if-has_no_open_left.false) (sym c.makes_file.ensures ∙ c.if-makes_file.true)

pub returns : goal.returns
unfolding is_counted_out
returns c = λ s t. none_out (nat_le max_opens (length s.opens)) (makes_file (create_of c.args.request.now) c.args.found)
    (nat_le max_files (length s.entries)) (nat_le max_ids s.open_ids_given) (nat_lt last_file s.next_file)
    (sym (c.has_no_open_left.ensures s t) ∙ c.if-has_no_open_left.false) (sym c.makes_file.ensures ∙ c.if-makes_file.false)
