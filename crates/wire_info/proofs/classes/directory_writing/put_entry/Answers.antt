use Rattle.wire_info.proofs.classes.directory_writing.put_entry.Goals as goal

pub returns-in-Directory : goal.returns-in-Directory
returns-in-Directory c = rw c.in-Directory.is c.put_directory.ensures

pub returns-in-FullDirectory : goal.returns-in-FullDirectory
returns-in-FullDirectory c = rw c.in-FullDirectory.is c.put_full_directory.ensures

pub returns-in-BothDirectory : goal.returns-in-BothDirectory
returns-in-BothDirectory c = rw c.in-BothDirectory.is c.put_both_directory.ensures

pub returns-in-IdBothDirectory : goal.returns-in-IdBothDirectory
returns-in-IdBothDirectory c = rw c.in-IdBothDirectory.is c.put_id_both_directory.ensures

pub returns-in-IdFullDirectory : goal.returns-in-IdFullDirectory
returns-in-IdFullDirectory c = rw c.in-IdFullDirectory.is c.put_id_full_directory.ensures
