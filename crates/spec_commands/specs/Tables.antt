-- Numbers that requests and replies share.
use Rattle.std.specs.Prelude.{ℕ, ◌==◌, Bool, if◌then◌else◌, Option, Some, None}
use Rattle.spec_wire.specs.declared.messages.directory_class.DirectoryClass.{DirectoryClass}
use Rattle.spec_wire.specs.declared.messages.directory_class.DirectoryClass.TheVariants as class

-- the class of a listing by its number (MS-SMB2 2.2.33)
unfoldable pub directory_class : ℕ → Option DirectoryClass
directory_class n =
    if n == 1 then Some class.Directory
    else if n == 2 then Some class.FullDirectory
    else if n == 3 then Some class.BothDirectory
    else if n == 12 then Some class.Names
    else if n == 37 then Some class.IdBothDirectory
    else if n == 38 then Some class.IdFullDirectory
    else None

-- a bit where it is wanted
unfoldable pub bit_if : Bool → ℕ → ℕ
bit_if wanted bit = if wanted then bit else 0
