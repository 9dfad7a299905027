-- What is found behind a shortened list is so of the rows before it.
use Rattle.std.proofs.Common.{◌≡◌, ℕ, ◌-◌, ◌<◌, ◌≤◌, Bool, true, false, List, get_or, subst, sym, ap, ◌∙◌, arith}
use Rattle.client_values.specs.declared.operations.shapes.Kind.{Kind}
use Rattle.client_rows.specs.declared.operation_rows.row.Row.{Row}
use Rattle.client_rows.specs.declared.operation_rows.chains.Chain.TheVariants as chains
use Rattle.client_rows.specs.operation_rows.Rows.{stands, owner, kind, begins, ends}
use Rattle.client_rows.specs.operation_rows.Listed.{SameButEnd}
use Rattle.client_rows.specs.operation_rows.Holding.{Alike, ChainsFit, FitsChains, FitsRows, HoldingHolder, on_chain}
use Rattle.client_rows.proofs.operation_rows.Columns.{alike_end, owners, kinds, standing, links_end}
use Rattle.client_rows.proofs.operation_rows.Holding.{listed_holds}

pub chain_old : (fills : ℕ → Bool) (old mid : List Row) (g : ℕ) → Alike old mid
    → ((h : ℕ) → 0 < h → h < g → on_chain (kind mid g) (owner mid) (kind mid) fills h g ≡ true → stands mid h ≡ false)
    → (h : ℕ) → 0 < h → h < g → on_chain (kind old g) (owner old) (kind old) fills h g ≡ true → stands old h ≡ false
chain_old fills old mid g a f =
    subst (λ (u : ℕ → Bool). (h : ℕ) → 0 < h → h < g → on_chain (kind old g) (owner old) (kind old) fills h g ≡ true
    → u h ≡ false) (sym (standing old mid a))
    (subst (λ (k : ℕ → Kind). (h : ℕ) → 0 < h → h < g → on_chain (k g) (owner old) k fills h g ≡ true
    → stands mid h ≡ false) (sym (kinds old mid a))
    (subst (λ (o : ℕ → ℕ). (h : ℕ) → 0 < h → h < g → on_chain (kind mid g) o (kind mid) fills h g ≡ true
    → stands mid h ≡ false) (sym (owners old mid a)) f))

-- ---- the chains

pub chains_of : (holds : ℕ → ℕ → Bool) (fills : ℕ → Bool) (rows : List Row) (holders : List ℕ) → FitsRows holds fills rows holders
    → ChainsFit holds fills rows
chains_of holds fills rows holders f =
    record { opens = f.opens; changing = f.changing; filling = f.filling; suits = f.suits }

chains_moved : {holds : ℕ → ℕ → Bool} {fills : ℕ → Bool} {o o' : ℕ → ℕ} {k k' : ℕ → Kind} {u u' : ℕ → Bool}
    {a a' c c' f f' : ℕ → ℕ} → o ≡ o' → k ≡ k' → u ≡ u' → a ≡ a' → c ≡ c' → f ≡ f'
    → FitsChains holds fills o k u a c f → FitsChains holds fills o' k' u' a' c' f'
chains_moved {holds} {fills} {o} {o'} {k} {k'} {u} {u'} {a} {a'} {c} {c'} {f} {f'} p q r s t v h =
    subst (λ (z : ℕ → ℕ). FitsChains holds fills z k' u' a' c' f') p
    (subst (λ (z : ℕ → Kind). FitsChains holds fills o z u' a' c' f') q
    (subst (λ (z : ℕ → Bool). FitsChains holds fills o k z a' c' f') r
    (subst (λ (z : ℕ → ℕ). FitsChains holds fills o k u z c' f') s
    (subst (λ (z : ℕ → ℕ). FitsChains holds fills o k u a z f') t
    (subst (λ (z : ℕ → ℕ). FitsChains holds fills o k u a c z) v h)))))

pub chains_dropped : (holds : ℕ → ℕ → Bool) (fills : ℕ → Bool) (old mid : List Row) (index : ℕ) → SameButEnd old mid index
    → ChainsFit holds fills old → ChainsFit holds fills mid
chains_dropped holds fills old mid index s f =
    let a = alike_end old mid index s in
    chains_moved (owners old mid a) (kinds old mid a) (standing old mid a) (links_end chains.All old mid index s)
    (links_end chains.Changes old mid index s) (links_end chains.Filled old mid index s) f

-- ---- the list

-- the last that is left of a stretch
pub listed_some : (holds : ℕ → ℕ → Bool) (fills : ℕ → Bool) (old mid : List Row) (holders : List ℕ) (g found : ℕ)
    → FitsRows holds fills old holders → begins old g < ends mid g → ends mid g ≤ ends old g
    → get_or holders (ends mid g - 1) 0 ≡ found → stands old found ≡ true → HoldingHolder holds (owner old) (stands old) found g
listed_some holds fills old mid holders g found f a b e u =
    subst (λ z. HoldingHolder holds (owner old) (stands old) z g) e
    (listed_holds holds fills old holders g (ends mid g - 1) f (omega arith) (omega arith) (ap (λ z. stands old z) e ∙ u))
