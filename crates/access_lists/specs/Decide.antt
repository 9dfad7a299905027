-- What a user may do at a path, by the first rule that bears. A right is 0 to read, 1 to write, 2 to delete: the bits 1, 2 and 4 of a
-- rule's rights.
use Rattle.std.specs.Prelude.{ℕ, ◌+◌, ◌-◌, ◌/◌, ◌%◌, ◌^◌, ◌==◌, nat_le, Bool, true, false, ◌&&◌, ◌||◌, if◌then◌else◌, List, [], ◌∷◌}
use Rattle.std.specs.Prelude.{Option, Some, None, is_some, option_map}
use Rattle.std.specs.List.{position}
use Rattle.spec_exchange.specs.Texts.{same_name, is_below}
use Rattle.access_lists.specs.declared.rules.Rule.{Rule}

-- the rights have this one
unfoldable pub has_right : ℕ → ℕ → Bool
has_right rights r = (rights / 2 ^ r) % 2 == 1

-- a rule's user is this one by ASCII case, or all
unfoldable pub is_of_user : Option (List ℕ) → List ℕ → Bool
is_of_user None name = true
is_of_user (Some user) name = same_name user name

-- the components of a rule's path begin those of the path, by ASCII case
unfoldable pub is_within : List ℕ → List ℕ → Bool
is_within directory path = same_name directory path || is_below directory path

unfoldable pub bears_on : Rule → List ℕ → List ℕ → Bool
bears_on rule name path = is_of_user rule.user name && is_within rule.path path

-- a rule decided: its number, and whether it allows
pub record Deciding : Type 0 where
  pub rule : ℕ
  pub allows : Bool

-- the first rule that bears on the user, the path and the right, where the rules are counted from n on
unfoldable pub deciding : ℕ → List Rule → List ℕ → List ℕ → ℕ → Option Deciding
deciding n [] name path r = None
deciding n (x ∷ xs) name path r = if bears_on x name path && has_right x.rights r
    then Some (record { rule = n; allows = x.allow })
    else deciding (n + 1) xs name path r

-- the rule that denies; where none bears the right is allowed
unfoldable pub denying : Option Deciding → Option ℕ
denying None = None
denying (Some d) = if d.allows then None else Some d.rule

unfoldable pub least : Option ℕ → Option ℕ → Option ℕ
least None b = b
least (Some a) None = Some a
least (Some a) (Some b) = if nat_le a b then Some a else Some b

-- the rule that denies a right, counted from n on, where it is asked
unfoldable pub denial : ℕ → List Rule → List ℕ → List ℕ → ℕ → Bool → Option ℕ
denial n rules name path r false = None
denial n rules name path r true = denying (deciding n rules name path r)

-- the least rule, counted from 1 on, that denies one of the rights asked
unfoldable pub decided : List Rule → List ℕ → List ℕ → ℕ → Option ℕ
decided rules name path rights = least (denial 1 rules name path 0 (has_right rights 0))
    (least (denial 1 rules name path 1 (has_right rights 1)) (denial 1 rules name path 2 (has_right rights 2)))

unfoldable pub is_denied : List Rule → List ℕ → List ℕ → ℕ → Bool
is_denied rules name path r = is_some (denial 1 rules name path r true)

unfoldable pub without : Bool → ℕ → ℕ → ℕ
without false mask access = access
without true mask access = access - mask

-- the greatest access mask (MS-DTYP 2.4.3): 001f01ff without 21 where reading is denied, without 106 where writing is, without 10040
-- where deleting is
unfoldable pub maximal : List Rule → List ℕ → List ℕ → ℕ
maximal rules name path = without (is_denied rules name path 2) 0x10040
    (without (is_denied rules name path 1) 0x106 (without (is_denied rules name path 0) 0x21 0x1f01ff))

-- the least rule, counted from 1 on, whose path lies below a directory, at any depth: whoever its user is, and whether it allows or denies
unfoldable pub below : List Rule → List ℕ → Option ℕ
below rules directory = option_map (λ (i : ℕ). i + 1) (position (λ (x : Rule). is_below directory x.path) rules)
