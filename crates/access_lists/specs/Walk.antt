-- The rules of some numbers, one behind the other: what is asked behind each, and the first that denies some of it.
use Rattle.std.specs.Prelude.{ℕ, ◌+◌, ◌<◌, ◌==◌, Bool, true, false, not, ◌&&◌, ◌||◌, if◌then◌else◌, List, [], ◌∷◌, length, get_or, All}
use Rattle.std.specs.Prelude.{Option, Some, None}
use Rattle.spec_exchange.specs.Texts.{upper}
use Rattle.access_lists.specs.declared.rules.Rule.{Rule}
use Rattle.access_lists.specs.declared.deciding.Asked.{Asked}
use Rattle.access_lists.specs.declared.deciding.Verdict.{Verdict}
use Rattle.access_lists.specs.declared.deciding.Verdict.TheVariants.{Allowed, Denied}
use Rattle.access_lists.specs.Decide.{has_right, bears_on}

-- the rule that a verdict names
abbrev pub told : Verdict → Option ℕ
told Allowed = None
told (Denied n) = Some n

abbrev pub asked_of : ℕ → Asked
asked_of rights = record { read = has_right rights 0; write = has_right rights 1; delete = has_right rights 2 }

abbrev pub meets : Asked → Asked → Bool
meets a has = (a.read && has.read) || ((a.write && has.write) || (a.delete && has.delete))

abbrev pub left_of : Asked → Asked → Asked
left_of a has = record { read = a.read && not has.read; write = a.write && not has.write; delete = a.delete && not has.delete }

-- what is asked behind a rule, and nothing where it denies some of it
unfoldable pub judged_one : Rule → List ℕ → List ℕ → Asked → Option Asked
judged_one x name path a = if not (bears_on x name path) then Some a
    else if meets a (asked_of x.rights) && not x.allow then None
    else Some (left_of a (asked_of x.rights))

abbrev pub judged_behind : Option Asked → ℕ → (Asked → Option ℕ) → Option ℕ
judged_behind None n f = Some n
judged_behind (Some a) n f = f a

-- a rule that has no right
abbrev pub no_rule : Rule
no_rule = record { allow = true; user = None; rights = 0; path = [] }

-- the first of the rules of these numbers that denies some of what is asked, counted from 1 on
unfoldable pub judged : List Rule → List ℕ → List ℕ → List ℕ → Asked → Option ℕ
judged rules [] name path a = None
judged rules (k ∷ ks) name path a = judged_behind (judged_one (get_or rules k no_rule) name path a) (k + 1)
    (λ b. judged rules ks name path b)

-- each number is one of a rule
abbrev pub AreNumbers : List ℕ → List Rule → Type 0
AreNumbers numbers rules = All (λ k. k < length rules) numbers

-- the texts are equal, but for case, as far as the first goes
unfoldable pub begins_so : List ℕ → List ℕ → Bool
begins_so [] text = true
begins_so (x ∷ xs) [] = false
begins_so (x ∷ xs) (y ∷ ys) = (upper x == upper y) && begins_so xs ys
