use Rattle.wire_commands.specs.values.Meaning.{setup_of, create_of}
use Rattle.wire_commands.proofs.writing.replying.success_body.Goals as goal

pub returns-in-Setup : goal.returns-in-Setup
returns-in-Setup c = rw c.in-Setup.is (c.setup_body.ensures (setup_of c.in-Setup.field-0))

pub returns-in_ok-tree_body-in-TreeConnect : goal.returns-in_ok-tree_body-in-TreeConnect
returns-in_ok-tree_body-in-TreeConnect c = rw c.in-TreeConnect.is (
  tt,
  c.in_ok-tree_body-in-TreeConnect.ensures
      c.args.token.now c.in-TreeConnect.share,
)

pub returns-in_ok-create_body-in-Create : goal.returns-in_ok-create_body-in-Create
returns-in_ok-create_body-in-Create c = rw c.in-Create.is (
  tt,
  c.in_ok-create_body-in-Create.ensures c.args.token.now
      (create_of c.in-Create.field-0),
)

pub returns-in_ok-close_body-in-Close : goal.returns-in_ok-close_body-in-Close
returns-in_ok-close_body-in-Close c = rw c.in-Close.is (
  tt,
  c.in_ok-close_body-in-Close.ensures c.args.token.now
      c.in-Close.file c.in-Close.query,
)

pub returns-in-Read : goal.returns-in-Read
returns-in-Read c = rw c.in-Read.is (c.read_body.ensures c.args.token.now c.in-Read.file c.in-Read.at c.in-Read.size
    c.in-Read.minimum c.in-Read.channel)

pub returns-in_ok-write_body-in-Write : goal.returns-in_ok-write_body-in-Write
returns-in_ok-write_body-in-Write c = rw c.in-Write.is (
  tt,
  c.in_ok-write_body-in-Write.ensures c.args.token.now
      c.in-Write.file c.in-Write.at c.in-Write.bytes.now c.in-Write.channel,
)

pub returns-in_ok-ioctl_body-in-Ioctl : goal.returns-in_ok-ioctl_body-in-Ioctl
returns-in_ok-ioctl_body-in-Ioctl c = rw c.in-Ioctl.is (tt, c.in_ok-ioctl_body-in-Ioctl.ensures c.args.token.now c.in-Ioctl.room)

pub returns-in-ListDirectory : goal.returns-in-ListDirectory
returns-in-ListDirectory c = rw c.in-ListDirectory.is (c.list_body.ensures c.args.token.now c.in-ListDirectory.file
    c.in-ListDirectory.class c.in-ListDirectory.restart c.in-ListDirectory.single c.in-ListDirectory.pattern c.in-ListDirectory.room)

pub returns-in-QueryFile : goal.returns-in-QueryFile
returns-in-QueryFile c = rw c.in-QueryFile.is (c.file_body.ensures c.args.token.now c.in-QueryFile.file
    c.in-QueryFile.class c.in-QueryFile.room)

pub returns-in-QueryVolume : goal.returns-in-QueryVolume
returns-in-QueryVolume c = rw c.in-QueryVolume.is (c.volume_body.ensures c.args.token.now c.in-QueryVolume.file
    c.in-QueryVolume.class c.in-QueryVolume.room)
