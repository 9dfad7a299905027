use Rattle.std.proofs.Common.{[]}
use Rattle.wire_info.specs.classes.Views.{directory_entry}
use Rattle.wire_commands.proofs.values.Places.{front_at}
use Rattle.wire_commands.proofs.reading.heard_names.entry_at.Goals as goal

pub returns : goal.returns
returns c = front_at directory_entry c.args.found.now c.args.at (record {
  creation_time = 0;
  last_access_time = 0;
  last_write_time = 0;
  change_time = 0;
  end_of_file = 0;
  allocation_size = 0;
  file_attributes = 0;
  file_id = 0;
  name = record { ref_ptr = (0, 0); now = [] };
}) c.requires
