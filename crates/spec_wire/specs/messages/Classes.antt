-- The information classes that can be asked and set (MS-SMB2 2.2.33, 2.2.37, 2.2.39, MS-FSCC 2.4, 2.5).
use Rattle.std.specs.Prelude.{ℕ, ◌==◌, Bool, true, false, ◌||◌, if◌then◌else◌, Option, Some, None}
use Rattle.spec_wire.specs.declared.messages.error.MessageError.{MessageError}
use Rattle.spec_wire.specs.declared.messages.error.MessageError.TheVariants.{BadClass}

-- a listing's classes: directory, full, both, names, both with ids, full with ids
unfoldable pub is_directory_class : ℕ → Bool
is_directory_class class = (class == 1) || ((class == 2) || ((class == 3) || ((class == 12) || ((class == 37) || (class == 38)))))

-- What can be asked of a file (type 1): basic, standard, internal, all, network open, and the two of extended
-- attributes, of which the attributes themselves (15) are not supported; access, name, position, mode, alignment, the
-- short name (21), streams (22). Of a volume (type 2): volume, size, device, attribute, full size, sector size. The
-- classes of other types (security, quota) are not looked at.
unfoldable pub is_query_class : ℕ → ℕ → Bool
is_query_class type class =
    if type == 1 then (class == 4)
    || ((class == 5) || ((class == 6) || ((class == 18) || ((class == 34) || ((class == 7) || ((class == 15)
    || ((class == 8) || ((class == 9) || ((class == 14) || ((class == 16) || ((class == 17) || ((class == 21)
    || (class == 22)))))))))))))
    else if type == 2 then (class == 1)
    || ((class == 3) || ((class == 4) || ((class == 5) || ((class == 7) || (class == 11)))))
    else true

-- What can be set of a file: basic, rename, disposition, allocation, end of file, position, mode, and extended
-- attributes, which are not supported. Of a volume nothing.
unfoldable pub is_set_class : ℕ → ℕ → Bool
is_set_class type class =
    if type == 1 then (class == 4)
    || ((class == 10) || ((class == 13) || ((class == 19) || ((class == 20) || ((class == 15) || ((class == 14) || (class == 16)))))))
    else if type == 2 then false
    else true

-- a class that isn't known
unfoldable pub class_fault : Bool → ℕ → Option MessageError
class_fault known class = if known then None else Some (BadClass class)
