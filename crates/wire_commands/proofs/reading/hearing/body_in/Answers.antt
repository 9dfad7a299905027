use Rattle.wire_commands.specs.values.Meaning.{client_create_of}
use Rattle.wire_commands.proofs.reading.hearing.body_in.Goals as goal

pub returns-in-TreeConnect-clause-hears : goal.returns-in-TreeConnect-clause-hears
returns-in-TreeConnect-clause-hears c = rw c.in-TreeConnect.is (c.tree_in.ensures c.in-TreeConnect.share)

pub returns-in-Create-clause-hears : goal.returns-in-Create-clause-hears
returns-in-Create-clause-hears c = rw c.in-Create.is (c.created_in.ensures (client_create_of c.in-Create.field-0))

pub returns-in-Read-clause-hears : goal.returns-in-Read-clause-hears
returns-in-Read-clause-hears c = rw c.in-Read.is (c.content_in.ensures.hears c.in-Read.file c.in-Read.at
    c.in-Read.size c.in-Read.minimum c.in-Read.channel)

pub returns-in-Write-clause-hears : goal.returns-in-Write-clause-hears
returns-in-Write-clause-hears c = rw c.in-Write.is (c.count_in.ensures c.in-Write.file c.in-Write.at
    c.in-Write.bytes.now c.in-Write.channel)

pub returns-in-ListDirectory-clause-hears : goal.returns-in-ListDirectory-clause-hears
returns-in-ListDirectory-clause-hears c = rw c.in-ListDirectory.is (c.list_in.ensures.hears c.in-ListDirectory.file
    c.in-ListDirectory.restart c.in-ListDirectory.single c.in-ListDirectory.pattern c.in-ListDirectory.room)

pub returns-in-QueryFile-clause-hears : goal.returns-in-QueryFile-clause-hears
returns-in-QueryFile-clause-hears c = rw c.in-QueryFile.is (c.file_in.ensures c.in-QueryFile.file c.in-QueryFile.room)

pub returns-in-Read-clause-lacks : goal.returns-in-Read-clause-lacks
returns-in-Read-clause-lacks c = rw c.in-Read.is c.content_in.ensures.lacks

pub returns-in-ListDirectory-clause-lacks : goal.returns-in-ListDirectory-clause-lacks
returns-in-ListDirectory-clause-lacks c = rw c.in-ListDirectory.is c.list_in.ensures.lacks
