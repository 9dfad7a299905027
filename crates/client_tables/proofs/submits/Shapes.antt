-- What shapes tell of waiting is what the model's operations ask: a row that is new by shapes is new by the operations.
use Rattle.std.proofs.Common.{◌≡◌, ℕ, ◌<◌, ◌≤◌, ◌==◌, ◌&&◌, not, Bool, true, false, List, get_or, refl, ap, sym, ◌∙◌, arith}
use Rattle.std.proofs.Common.{◌⊎◌, inl, inr}
use Rattle.spec_exchange.specs.Operations.{Op, OpCreate, OpWrite, OpRead, OpEnd, OpTime, OpRename, OpRemove, OpLock}
use Rattle.spec_exchange.specs.Operations.{OpUnlock, OpFlush, OpStat, OpList, OpClose}
use Rattle.client_values.specs.operations.Waiting.{at_of, kind_of, shape_holds, size_of}
use Rattle.client_values.proofs.operations.Agreeing.{shapes_same}
use Rattle.client_rows.specs.declared.operation_rows.row.Row.{Row}
use Rattle.client_rows.specs.declared.operation_rows.chains.Chain.TheVariants as chains
use Rattle.client_rows.specs.operation_rows.Rows.{stands, owner, kind, begins, ends, links}
use Rattle.client_rows.specs.operation_rows.Holding.{IsEntry, Leads, on_chain, on_filled}
use Rattle.client_rows.specs.operation_rows.Taking.{IsRowNew, RowJoins}
use Rattle.client_rows.proofs.operation_rows.Holding.{chain_owner, same_of}
use Rattle.client_rows.specs.open_marks.Marks.{fills_by_shape, holds_by_shape, is_mark_write}
use Rattle.client_rows.specs.Shown.{fills_by, is_row_filled, waits_by}
use Rattle.client_tables.proofs.submits.Wider.{both, chain_by, such_of}

filled_same : (x : Op) → is_row_filled x ≡ (is_mark_write (kind_of x) && not (size_of x == 0))
filled_same (OpCreate path access share disposition persist directory) = refl
filled_same (OpWrite create at bytes) = refl
filled_same (OpRead create at size) = refl
filled_same (OpEnd create size) = refl
filled_same (OpTime create time) = refl
filled_same (OpRename create path) = refl
filled_same (OpRemove create) = refl
filled_same (OpLock create at n exclusive) = refl
filled_same (OpUnlock create at n) = refl
filled_same (OpFlush create) = refl
filled_same (OpStat create) = refl
filled_same (OpList create) = refl
filled_same (OpClose create) = refl

-- of numbers whose rows have the operations' kinds
pub waits_is : (op : ℕ → Op) (rows : List Row) (h g : ℕ) → kind_of (op h) ≡ kind rows h → kind_of (op g) ≡ kind rows g
    → waits_by op h g ≡ holds_by_shape (kind rows) (λ x. at_of (op x)) (λ x. size_of (op x)) h g
waits_is op rows h g a b = shapes_same (op h) (op g)
    ∙ (λ t. shape_holds (a t) (at_of (op h)) (size_of (op h)) (b t) (at_of (op g)) (size_of (op g)))

pub fills_is : (op : ℕ → Op) (rows : List Row) (h : ℕ) → kind_of (op h) ≡ kind rows h
    → fills_by op h ≡ fills_by_shape (kind rows) (λ x. size_of (op x)) h
fills_is op rows h a = filled_same (op h) ∙ ap (λ z. is_mark_write z && not (size_of (op h) == 0)) a

below_or_not : (i n : ℕ) → (i < n) ⊎ (n ≤ i)
below_or_not i n = grind arith

-- tests that tell the same of what was taken
module _ (holds holds2 : ℕ → ℕ → Bool) (fills fills2 : ℕ → Bool) (rows : List Row) (holders : List ℕ) (n : ℕ)
    (same : (h g : ℕ) → 0 < h → h < g → g ≤ n → holds2 h g ≡ holds h g)
    (alike : (h : ℕ) → 0 < h → h < n → fills2 h ≡ fills h) (nought : owner rows 0 ≡ 0) where
  -- what stands on the open of n isn't 0
  some : (h : ℕ) → 0 < owner rows n → owner rows h ≡ owner rows n → 0 < h
  some h p e =
      elim (below_or_not 0 h) as (λ _. 0 < h) [
        | inl l ↦ l
        | inr l ↦ absurd (let z : h ≡ 0 = omega arith in let y : owner rows h ≡ 0 = ap (λ i. owner rows i) z ∙ nought in omega arith)
      ]

  leads_by : (h l : ℕ) → 0 < h → l ≤ n → Leads holds (owner rows) h l → Leads holds2 (owner rows) h l
  leads_by h l p a (inl e) = inl e
  leads_by h l p a (inr e) = inr (e.0, e.1, same h l p e.0 a ∙ e.2)

  filling_by : 0 < owner rows n → RowJoins (links chains.Filled rows) (on_filled (owner rows) fills) (stands rows) n
      → RowJoins (links chains.Filled rows) (on_filled (owner rows) fills2) (stands rows) n
  filling_by q j =
      let link = links chains.Filled rows n in
      let own : 0 < link → owner rows link ≡ owner rows n = λ p. same_of (owner rows link) (owner rows n) (fills link) (j.is p) in
      record {
        lower = j.lower;
        gap = λ h a b e. (
            let s = same_of (owner rows h) (owner rows n) (fills2 h) e in
            j.gap h a b (both (owner rows h) (owner rows n) (fills h) s
            (sym (alike h (some h q s) b) ∙ such_of (owner rows h) (owner rows n) (fills2 h) e))
            );
        same = λ p h. (let e = own p in λ t. ((owner rows h) == (e t)) && fills2 h);
        is = λ p. (
            let l = j.lower in
            both (owner rows link) (owner rows n) (fills2 link) (own p)
            (alike link p (omega arith) ∙ such_of (owner rows link) (owner rows n) (fills link) (j.is p))
            );
      }

  chain_same : (h : ℕ) → 0 < h → h < n → on_chain (kind rows n) (owner rows) (kind rows) fills2 h n
      ≡ on_chain (kind rows n) (owner rows) (kind rows) fills h n
  chain_same h p l = chain_by (kind rows n) (owner rows) (kind rows) fills fills2 h n (alike h p l)

  pub new_by : IsRowNew holds fills rows holders n → IsRowNew holds2 fills2 rows holders n
  new_by i =
      record {
        owned = i.owned;
        within = i.within;
        own = i.own;
        begun = i.begun;
        ended = i.ended;
        opens = i.opens;
        changing = i.changing;
        filling = filling_by i.owned i.filling;
        suits = λ h l e. (
            let p = some h i.owned (chain_owner (kind rows n) (owner rows) (kind rows) fills2 h n e) in
            elim (i.suits h l (sym (chain_same h p l) ∙ e)) as (λ _. (h ≡ owner rows n) ⊎ (holds2 h n ≡ true)) [
              | inl z ↦ inl z
              | inr z ↦ inr (same h n p l (omega arith) ∙ z)
            ]
            );
        entries = λ j a b. (
            let e = i.entries j a b in
            (e.0, e.1, same (get_or holders j 0) n (i.numbered j a b) e.0 (omega arith) ∙ e.2)
            );
        numbered = i.numbered;
        covered = λ h p l s w. (
            elim (i.covered h p l s (sym (same h n p l (omega arith)) ∙ w)) as (λ _. (stands rows h ≡ false)
            ⊎ (IsEntry holds2 (owner rows) holders (begins rows n) (ends rows n) h
            ⊎ (on_chain (kind rows n) (owner rows) (kind rows) fills2 h n ≡ true))) [
              | inl z ↦ inl z
              | inr (inl z) ↦ (
                  let y = (i.entries z.at z.behind z.within).0 in
                  inr (inl (record {
                    at = z.at;
                    behind = z.behind;
                    within = z.within;
                    leads = leads_by h (get_or holders z.at 0) p (omega arith) z.leads;
                  }))
                  )
              | inr (inr z) ↦ inr (inr (chain_same h p l ∙ z))
            ]
            );
        first = λ u h l s w. (let p = some h i.owned s in i.first u h l s (sym (same h n p l (omega arith)) ∙ w));
      }
