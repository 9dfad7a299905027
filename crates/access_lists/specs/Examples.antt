-- `allow Ann rwd pay` and `deny * rw pay`, with names and paths.
use Rattle.std.specs.Prelude.{ℕ, true, false, List, [], ◌∷◌, Some, None}
use Rattle.spec_exchange.specs.Content.{same_bytes}
use Rattle.spec_exchange.specs.Texts.{upper, same_name, after_name, begins_below, is_below}
use Rattle.access_lists.specs.declared.rules.Rule.{Rule}
use Rattle.access_lists.specs.Decide.{has_right, is_of_user, is_within, bears_on, deciding, denying, least, denial, decided, is_denied}
use Rattle.access_lists.specs.Decide.{without, maximal}

abbrev pub pay_rules : List Rule
pay_rules =
    record { allow = true; user = Some (65 ∷ 110 ∷ 110 ∷ []); rights = 7; path = 112 ∷ 97 ∷ 121 ∷ [] }
    ∷ record { allow = false; user = None; rights = 3; path = 112 ∷ 97 ∷ 121 ∷ [] }
    ∷ []

-- `deny * w pay` and `deny * rd -`
abbrev pub two_denials : List Rule
two_denials =
    record { allow = false; user = None; rights = 2; path = 112 ∷ 97 ∷ 121 ∷ [] }
    ∷ record { allow = false; user = None; rights = 5; path = [] }
    ∷ []

-- `ANN`, `Bob`
abbrev pub ann : List ℕ
ann = 65 ∷ 78 ∷ 78 ∷ []

abbrev pub bob : List ℕ
bob = 66 ∷ 111 ∷ 98 ∷ []

-- `pay\x`, `PAY\x`, `payroll`, `pub`
abbrev pub pay_x : List ℕ
pay_x = 112 ∷ 97 ∷ 121 ∷ 92 ∷ 120 ∷ []

abbrev pub pay_upper : List ℕ
pay_upper = 80 ∷ 65 ∷ 89 ∷ 92 ∷ 120 ∷ []

abbrev pub payroll : List ℕ
payroll = 112 ∷ 97 ∷ 121 ∷ 114 ∷ 111 ∷ 108 ∷ 108 ∷ []

abbrev pub public : List ℕ
public = 112 ∷ 117 ∷ 98 ∷ []

unfoldable pub computed : ℕ
unfolding upper same_name same_bytes after_name begins_below is_below has_right is_of_user is_within bears_on deciding denying least
    denial decided
    is_denied without maximal
computed = 0
