-- Which kinds hold up which.
use Rattle.std.proofs.Common.{◌≡◌, ℕ, ◌==◌, ◌&&◌, not, Bool, true, false, refl, ap, ◌⊎◌, inl, inr}
use Rattle.client_values.specs.declared.operations.shapes.Kind.{Kind}
use Rattle.client_values.specs.declared.operations.shapes.Kind.TheVariants as kinds
use Rattle.client_values.specs.operations.Waiting.{is_close_kind, shape_holds}
use Rattle.spec_exchange.specs.Content.{meets}
use Rattle.client_rows.specs.operation_rows.Holding.{is_holding_changing}
use Rattle.client_rows.specs.open_marks.Marks.{is_barrier, is_create_kind, is_mark_end, is_lock_kind, is_mark_write}

pub holds_write : (a : Kind) (p n q m : ℕ) → shape_holds a p n kinds.Write q m ≡ true
    → ((a ≡ kinds.Write) × (meets p n q m ≡ true)) ⊎ ((is_barrier a ≡ true) ⊎ (is_close_kind a ≡ true))
holds_write kinds.Create p n q m e = absurd (cc)
holds_write kinds.Write p n q m e = inl (refl, e)
holds_write kinds.Read p n q m e = absurd (cc)
holds_write kinds.End p n q m e = inr (inl refl)
holds_write kinds.Change p n q m e = inr (inl refl)
holds_write kinds.Lock p n q m e = absurd (cc)
holds_write kinds.Look p n q m e = absurd (cc)
holds_write kinds.List p n q m e = absurd (cc)
holds_write kinds.Close p n q m e = inr (inr refl)

pub holds_read : (a : Kind) (p n q m : ℕ) → shape_holds a p n kinds.Read q m ≡ true
    → ((a ≡ kinds.Write) × (meets p n q m ≡ true)) ⊎ ((is_mark_end a ≡ true) ⊎ (is_close_kind a ≡ true))
holds_read kinds.Create p n q m e = absurd (cc)
holds_read kinds.Write p n q m e = inl (refl, e)
holds_read kinds.Read p n q m e = absurd (cc)
holds_read kinds.End p n q m e = inr (inl refl)
holds_read kinds.Change p n q m e = absurd (cc)
holds_read kinds.Lock p n q m e = absurd (cc)
holds_read kinds.Look p n q m e = absurd (cc)
holds_read kinds.List p n q m e = absurd (cc)
holds_read kinds.Close p n q m e = inr (inr refl)

pub holds_look : (a : Kind) (p n q m : ℕ) → shape_holds a p n kinds.Look q m ≡ true
    → ((a ≡ kinds.Write) × (not (n == 0) ≡ true)) ⊎ ((is_mark_end a ≡ true) ⊎ (is_close_kind a ≡ true))
holds_look kinds.Create p n q m e = absurd (cc)
holds_look kinds.Write p n q m e = inl (refl, e)
holds_look kinds.Read p n q m e = absurd (cc)
holds_look kinds.End p n q m e = inr (inl refl)
holds_look kinds.Change p n q m e = absurd (cc)
holds_look kinds.Lock p n q m e = absurd (cc)
holds_look kinds.Look p n q m e = absurd (cc)
holds_look kinds.List p n q m e = absurd (cc)
holds_look kinds.Close p n q m e = inr (inr refl)

pub holds_lock : (a : Kind) (p n q m : ℕ) → shape_holds a p n kinds.Lock q m ≡ true
    → ((a ≡ kinds.Lock) × (meets p n q m ≡ true)) ⊎ (is_close_kind a ≡ true)
holds_lock kinds.Create p n q m e = absurd (cc)
holds_lock kinds.Write p n q m e = absurd (cc)
holds_lock kinds.Read p n q m e = absurd (cc)
holds_lock kinds.End p n q m e = absurd (cc)
holds_lock kinds.Change p n q m e = absurd (cc)
holds_lock kinds.Lock p n q m e = inl (refl, e)
holds_lock kinds.Look p n q m e = absurd (cc)
holds_lock kinds.List p n q m e = absurd (cc)
holds_lock kinds.Close p n q m e = inr refl

pub holds_list : (a : Kind) (p n q m : ℕ) → shape_holds a p n kinds.List q m ≡ true
    → is_close_kind a ≡ true
holds_list kinds.Create p n q m e = absurd (cc)
holds_list kinds.Write p n q m e = absurd (cc)
holds_list kinds.Read p n q m e = absurd (cc)
holds_list kinds.End p n q m e = absurd (cc)
holds_list kinds.Change p n q m e = absurd (cc)
holds_list kinds.Lock p n q m e = absurd (cc)
holds_list kinds.Look p n q m e = absurd (cc)
holds_list kinds.List p n q m e = absurd (cc)
holds_list kinds.Close p n q m e = refl

pub holds_end : (a : Kind) (p n q m : ℕ) → shape_holds a p n kinds.End q m ≡ true
    → (is_holding_changing a ≡ true) ⊎ (is_close_kind a ≡ true)
holds_end kinds.Create p n q m e = absurd (cc)
holds_end kinds.Write p n q m e = inl refl
holds_end kinds.Read p n q m e = absurd (cc)
holds_end kinds.End p n q m e = inl refl
holds_end kinds.Change p n q m e = inl refl
holds_end kinds.Lock p n q m e = absurd (cc)
holds_end kinds.Look p n q m e = absurd (cc)
holds_end kinds.List p n q m e = absurd (cc)
holds_end kinds.Close p n q m e = inr refl

pub holds_change : (a : Kind) (p n q m : ℕ) → shape_holds a p n kinds.Change q m ≡ true
    → (is_holding_changing a ≡ true) ⊎ (is_close_kind a ≡ true)
holds_change kinds.Create p n q m e = absurd (cc)
holds_change kinds.Write p n q m e = inl refl
holds_change kinds.Read p n q m e = absurd (cc)
holds_change kinds.End p n q m e = inl refl
holds_change kinds.Change p n q m e = inl refl
holds_change kinds.Lock p n q m e = absurd (cc)
holds_change kinds.Look p n q m e = absurd (cc)
holds_change kinds.List p n q m e = absurd (cc)
holds_change kinds.Close p n q m e = inr refl

pub holds_create : (a : Kind) (p n q m : ℕ) → shape_holds a p n kinds.Create q m ≡ true
    → is_close_kind a ≡ true
holds_create kinds.Create p n q m e = absurd (cc)
holds_create kinds.Write p n q m e = absurd (cc)
holds_create kinds.Read p n q m e = absurd (cc)
holds_create kinds.End p n q m e = absurd (cc)
holds_create kinds.Change p n q m e = absurd (cc)
holds_create kinds.Lock p n q m e = absurd (cc)
holds_create kinds.Look p n q m e = absurd (cc)
holds_create kinds.List p n q m e = absurd (cc)
holds_create kinds.Close p n q m e = refl

pub barriers_hold : (a b : Kind) (p n q m : ℕ) → is_barrier a ≡ true → is_barrier b ≡ true → shape_holds a p n b q m ≡ true
barriers_hold kinds.Create b p n q m e f = absurd (cc)
barriers_hold kinds.Write b p n q m e f = absurd (cc)
barriers_hold kinds.Read b p n q m e f = absurd (cc)
barriers_hold kinds.End kinds.Create p n q m e f = absurd (cc)
barriers_hold kinds.End kinds.Write p n q m e f = absurd (cc)
barriers_hold kinds.End kinds.Read p n q m e f = absurd (cc)
barriers_hold kinds.End kinds.End p n q m e f = refl
barriers_hold kinds.End kinds.Change p n q m e f = refl
barriers_hold kinds.End kinds.Lock p n q m e f = absurd (cc)
barriers_hold kinds.End kinds.Look p n q m e f = absurd (cc)
barriers_hold kinds.End kinds.List p n q m e f = absurd (cc)
barriers_hold kinds.End kinds.Close p n q m e f = absurd (cc)
barriers_hold kinds.Change kinds.Create p n q m e f = absurd (cc)
barriers_hold kinds.Change kinds.Write p n q m e f = absurd (cc)
barriers_hold kinds.Change kinds.Read p n q m e f = absurd (cc)
barriers_hold kinds.Change kinds.End p n q m e f = refl
barriers_hold kinds.Change kinds.Change p n q m e f = refl
barriers_hold kinds.Change kinds.Lock p n q m e f = absurd (cc)
barriers_hold kinds.Change kinds.Look p n q m e f = absurd (cc)
barriers_hold kinds.Change kinds.List p n q m e f = absurd (cc)
barriers_hold kinds.Change kinds.Close p n q m e f = absurd (cc)
barriers_hold kinds.Lock b p n q m e f = absurd (cc)
barriers_hold kinds.Look b p n q m e f = absurd (cc)
barriers_hold kinds.List b p n q m e f = absurd (cc)
barriers_hold kinds.Close b p n q m e f = absurd (cc)

pub ends_hold : (a b : Kind) (p n q m : ℕ) → is_mark_end a ≡ true → is_mark_end b ≡ true → shape_holds a p n b q m ≡ true
ends_hold kinds.Create b p n q m e f = absurd (cc)
ends_hold kinds.Write b p n q m e f = absurd (cc)
ends_hold kinds.Read b p n q m e f = absurd (cc)
ends_hold kinds.End kinds.Create p n q m e f = absurd (cc)
ends_hold kinds.End kinds.Write p n q m e f = absurd (cc)
ends_hold kinds.End kinds.Read p n q m e f = absurd (cc)
ends_hold kinds.End kinds.End p n q m e f = refl
ends_hold kinds.End kinds.Change p n q m e f = absurd (cc)
ends_hold kinds.End kinds.Lock p n q m e f = absurd (cc)
ends_hold kinds.End kinds.Look p n q m e f = absurd (cc)
ends_hold kinds.End kinds.List p n q m e f = absurd (cc)
ends_hold kinds.End kinds.Close p n q m e f = absurd (cc)
ends_hold kinds.Change b p n q m e f = absurd (cc)
ends_hold kinds.Lock b p n q m e f = absurd (cc)
ends_hold kinds.Look b p n q m e f = absurd (cc)
ends_hold kinds.List b p n q m e f = absurd (cc)
ends_hold kinds.Close b p n q m e f = absurd (cc)

pub write_barrier : (a b : Kind) (p n q m : ℕ) → is_mark_write a ≡ true → is_barrier b ≡ true → shape_holds a p n b q m ≡ true
write_barrier kinds.Create b p n q m e f = absurd (cc)
write_barrier kinds.Write kinds.Create p n q m e f = absurd (cc)
write_barrier kinds.Write kinds.Write p n q m e f = absurd (cc)
write_barrier kinds.Write kinds.Read p n q m e f = absurd (cc)
write_barrier kinds.Write kinds.End p n q m e f = refl
write_barrier kinds.Write kinds.Change p n q m e f = refl
write_barrier kinds.Write kinds.Lock p n q m e f = absurd (cc)
write_barrier kinds.Write kinds.Look p n q m e f = absurd (cc)
write_barrier kinds.Write kinds.List p n q m e f = absurd (cc)
write_barrier kinds.Write kinds.Close p n q m e f = absurd (cc)
write_barrier kinds.Read b p n q m e f = absurd (cc)
write_barrier kinds.End b p n q m e f = absurd (cc)
write_barrier kinds.Change b p n q m e f = absurd (cc)
write_barrier kinds.Lock b p n q m e f = absurd (cc)
write_barrier kinds.Look b p n q m e f = absurd (cc)
write_barrier kinds.List b p n q m e f = absurd (cc)
write_barrier kinds.Close b p n q m e f = absurd (cc)

pub write_end : (a b : Kind) (p n q m : ℕ) → is_mark_write a ≡ true → is_mark_end b ≡ true → shape_holds a p n b q m ≡ true
write_end kinds.Create b p n q m e f = absurd (cc)
write_end kinds.Write kinds.Create p n q m e f = absurd (cc)
write_end kinds.Write kinds.Write p n q m e f = absurd (cc)
write_end kinds.Write kinds.Read p n q m e f = absurd (cc)
write_end kinds.Write kinds.End p n q m e f = refl
write_end kinds.Write kinds.Change p n q m e f = absurd (cc)
write_end kinds.Write kinds.Lock p n q m e f = absurd (cc)
write_end kinds.Write kinds.Look p n q m e f = absurd (cc)
write_end kinds.Write kinds.List p n q m e f = absurd (cc)
write_end kinds.Write kinds.Close p n q m e f = absurd (cc)
write_end kinds.Read b p n q m e f = absurd (cc)
write_end kinds.End b p n q m e f = absurd (cc)
write_end kinds.Change b p n q m e f = absurd (cc)
write_end kinds.Lock b p n q m e f = absurd (cc)
write_end kinds.Look b p n q m e f = absurd (cc)
write_end kinds.List b p n q m e f = absurd (cc)
write_end kinds.Close b p n q m e f = absurd (cc)

-- all but a create hold up a close
pub close_last : (a b : Kind) (p n q m : ℕ) → (a ≡ kinds.Create → ⊥) → is_close_kind b ≡ true → shape_holds a p n b q m ≡ true
close_last kinds.Create b p n q m c f = absurd (c refl)
close_last kinds.Write kinds.Create p n q m c f = absurd (cc)
close_last kinds.Write kinds.Write p n q m c f = absurd (cc)
close_last kinds.Write kinds.Read p n q m c f = absurd (cc)
close_last kinds.Write kinds.End p n q m c f = absurd (cc)
close_last kinds.Write kinds.Change p n q m c f = absurd (cc)
close_last kinds.Write kinds.Lock p n q m c f = absurd (cc)
close_last kinds.Write kinds.Look p n q m c f = absurd (cc)
close_last kinds.Write kinds.List p n q m c f = absurd (cc)
close_last kinds.Write kinds.Close p n q m c f = refl
close_last kinds.Read kinds.Create p n q m c f = absurd (cc)
close_last kinds.Read kinds.Write p n q m c f = absurd (cc)
close_last kinds.Read kinds.Read p n q m c f = absurd (cc)
close_last kinds.Read kinds.End p n q m c f = absurd (cc)
close_last kinds.Read kinds.Change p n q m c f = absurd (cc)
close_last kinds.Read kinds.Lock p n q m c f = absurd (cc)
close_last kinds.Read kinds.Look p n q m c f = absurd (cc)
close_last kinds.Read kinds.List p n q m c f = absurd (cc)
close_last kinds.Read kinds.Close p n q m c f = refl
close_last kinds.End kinds.Create p n q m c f = absurd (cc)
close_last kinds.End kinds.Write p n q m c f = absurd (cc)
close_last kinds.End kinds.Read p n q m c f = absurd (cc)
close_last kinds.End kinds.End p n q m c f = absurd (cc)
close_last kinds.End kinds.Change p n q m c f = absurd (cc)
close_last kinds.End kinds.Lock p n q m c f = absurd (cc)
close_last kinds.End kinds.Look p n q m c f = absurd (cc)
close_last kinds.End kinds.List p n q m c f = absurd (cc)
close_last kinds.End kinds.Close p n q m c f = refl
close_last kinds.Change kinds.Create p n q m c f = absurd (cc)
close_last kinds.Change kinds.Write p n q m c f = absurd (cc)
close_last kinds.Change kinds.Read p n q m c f = absurd (cc)
close_last kinds.Change kinds.End p n q m c f = absurd (cc)
close_last kinds.Change kinds.Change p n q m c f = absurd (cc)
close_last kinds.Change kinds.Lock p n q m c f = absurd (cc)
close_last kinds.Change kinds.Look p n q m c f = absurd (cc)
close_last kinds.Change kinds.List p n q m c f = absurd (cc)
close_last kinds.Change kinds.Close p n q m c f = refl
close_last kinds.Lock kinds.Create p n q m c f = absurd (cc)
close_last kinds.Lock kinds.Write p n q m c f = absurd (cc)
close_last kinds.Lock kinds.Read p n q m c f = absurd (cc)
close_last kinds.Lock kinds.End p n q m c f = absurd (cc)
close_last kinds.Lock kinds.Change p n q m c f = absurd (cc)
close_last kinds.Lock kinds.Lock p n q m c f = absurd (cc)
close_last kinds.Lock kinds.Look p n q m c f = absurd (cc)
close_last kinds.Lock kinds.List p n q m c f = absurd (cc)
close_last kinds.Lock kinds.Close p n q m c f = refl
close_last kinds.Look kinds.Create p n q m c f = absurd (cc)
close_last kinds.Look kinds.Write p n q m c f = absurd (cc)
close_last kinds.Look kinds.Read p n q m c f = absurd (cc)
close_last kinds.Look kinds.End p n q m c f = absurd (cc)
close_last kinds.Look kinds.Change p n q m c f = absurd (cc)
close_last kinds.Look kinds.Lock p n q m c f = absurd (cc)
close_last kinds.Look kinds.Look p n q m c f = absurd (cc)
close_last kinds.Look kinds.List p n q m c f = absurd (cc)
close_last kinds.Look kinds.Close p n q m c f = refl
close_last kinds.List kinds.Create p n q m c f = absurd (cc)
close_last kinds.List kinds.Write p n q m c f = absurd (cc)
close_last kinds.List kinds.Read p n q m c f = absurd (cc)
close_last kinds.List kinds.End p n q m c f = absurd (cc)
close_last kinds.List kinds.Change p n q m c f = absurd (cc)
close_last kinds.List kinds.Lock p n q m c f = absurd (cc)
close_last kinds.List kinds.Look p n q m c f = absurd (cc)
close_last kinds.List kinds.List p n q m c f = absurd (cc)
close_last kinds.List kinds.Close p n q m c f = refl
close_last kinds.Close kinds.Create p n q m c f = absurd (cc)
close_last kinds.Close kinds.Write p n q m c f = absurd (cc)
close_last kinds.Close kinds.Read p n q m c f = absurd (cc)
close_last kinds.Close kinds.End p n q m c f = absurd (cc)
close_last kinds.Close kinds.Change p n q m c f = absurd (cc)
close_last kinds.Close kinds.Lock p n q m c f = absurd (cc)
close_last kinds.Close kinds.Look p n q m c f = absurd (cc)
close_last kinds.Close kinds.List p n q m c f = absurd (cc)
close_last kinds.Close kinds.Close p n q m c f = refl

pub create_holds_none : (b : Kind) (p n q m : ℕ) → shape_holds kinds.Create p n b q m ≡ true → ⊥
create_holds_none kinds.Create p n q m e = absurd (cc)
create_holds_none kinds.Write p n q m e = absurd (cc)
create_holds_none kinds.Read p n q m e = absurd (cc)
create_holds_none kinds.End p n q m e = absurd (cc)
create_holds_none kinds.Change p n q m e = absurd (cc)
create_holds_none kinds.Lock p n q m e = absurd (cc)
create_holds_none kinds.Look p n q m e = absurd (cc)
create_holds_none kinds.List p n q m e = absurd (cc)
create_holds_none kinds.Close p n q m e = absurd (cc)

pub end_is_barrier : (a : Kind) → is_mark_end a ≡ true → is_barrier a ≡ true
end_is_barrier kinds.Create e = absurd (cc)
end_is_barrier kinds.Write e = absurd (cc)
end_is_barrier kinds.Read e = absurd (cc)
end_is_barrier kinds.End e = refl
end_is_barrier kinds.Change e = absurd (cc)
end_is_barrier kinds.Lock e = absurd (cc)
end_is_barrier kinds.Look e = absurd (cc)
end_is_barrier kinds.List e = absurd (cc)
end_is_barrier kinds.Close e = absurd (cc)

pub changing_end : (a : Kind) (p n q m : ℕ) → is_holding_changing a ≡ true → shape_holds a p n kinds.End q m ≡ true
changing_end kinds.Create p n q m e = absurd (cc)
changing_end kinds.Write p n q m e = refl
changing_end kinds.Read p n q m e = absurd (cc)
changing_end kinds.End p n q m e = refl
changing_end kinds.Change p n q m e = refl
changing_end kinds.Lock p n q m e = absurd (cc)
changing_end kinds.Look p n q m e = absurd (cc)
changing_end kinds.List p n q m e = absurd (cc)
changing_end kinds.Close p n q m e = absurd (cc)

pub changing_change : (a : Kind) (p n q m : ℕ) → is_holding_changing a ≡ true → shape_holds a p n kinds.Change q m ≡ true
changing_change kinds.Create p n q m e = absurd (cc)
changing_change kinds.Write p n q m e = refl
changing_change kinds.Read p n q m e = absurd (cc)
changing_change kinds.End p n q m e = refl
changing_change kinds.Change p n q m e = refl
changing_change kinds.Lock p n q m e = absurd (cc)
changing_change kinds.Look p n q m e = absurd (cc)
changing_change kinds.List p n q m e = absurd (cc)
changing_change kinds.Close p n q m e = absurd (cc)

pub filled_look : (a : Kind) (p n q m : ℕ) → (is_mark_write a && not (n == 0)) ≡ true → shape_holds a p n kinds.Look q m ≡ true
filled_look kinds.Create p n q m e = absurd (cc)
filled_look kinds.Write p n q m e = e
filled_look kinds.Read p n q m e = absurd (cc)
filled_look kinds.End p n q m e = absurd (cc)
filled_look kinds.Change p n q m e = absurd (cc)
filled_look kinds.Lock p n q m e = absurd (cc)
filled_look kinds.Look p n q m e = absurd (cc)
filled_look kinds.List p n q m e = absurd (cc)
filled_look kinds.Close p n q m e = absurd (cc)

clash : (b : Bool) → b ≡ true → b ≡ false → ⊥
clash b h k = absurd (cc)

not_create : (a : Kind) → is_create_kind a ≡ false → a ≡ kinds.Create → ⊥
not_create a f e = clash (is_create_kind a) (ap (λ z. is_create_kind z) e) f

pub is_or_not : (a : Kind) → (a ≡ kinds.Create) ⊎ (a ≡ kinds.Create → ⊥)
is_or_not kinds.Create = inl refl
is_or_not kinds.Write = inr (not_create kinds.Write refl)
is_or_not kinds.Read = inr (not_create kinds.Read refl)
is_or_not kinds.End = inr (not_create kinds.End refl)
is_or_not kinds.Change = inr (not_create kinds.Change refl)
is_or_not kinds.Lock = inr (not_create kinds.Lock refl)
is_or_not kinds.Look = inr (not_create kinds.Look refl)
is_or_not kinds.List = inr (not_create kinds.List refl)
is_or_not kinds.Close = inr (not_create kinds.Close refl)

-- a close holds up all
pub close_holds : (a b : Kind) (p n q m : ℕ) → is_close_kind a ≡ true → shape_holds a p n b q m ≡ true
close_holds kinds.Create b p n q m e = absurd (cc)
close_holds kinds.Write b p n q m e = absurd (cc)
close_holds kinds.Read b p n q m e = absurd (cc)
close_holds kinds.End b p n q m e = absurd (cc)
close_holds kinds.Change b p n q m e = absurd (cc)
close_holds kinds.Lock b p n q m e = absurd (cc)
close_holds kinds.Look b p n q m e = absurd (cc)
close_holds kinds.List b p n q m e = absurd (cc)
close_holds kinds.Close b p n q m e = refl

pub barrier_write : (a : Kind) (p n q m : ℕ) → is_barrier a ≡ true → shape_holds a p n kinds.Write q m ≡ true
barrier_write kinds.Create p n q m e = absurd (cc)
barrier_write kinds.Write p n q m e = absurd (cc)
barrier_write kinds.Read p n q m e = absurd (cc)
barrier_write kinds.End p n q m e = refl
barrier_write kinds.Change p n q m e = refl
barrier_write kinds.Lock p n q m e = absurd (cc)
barrier_write kinds.Look p n q m e = absurd (cc)
barrier_write kinds.List p n q m e = absurd (cc)
barrier_write kinds.Close p n q m e = absurd (cc)

pub end_read : (a : Kind) (p n q m : ℕ) → is_mark_end a ≡ true → shape_holds a p n kinds.Read q m ≡ true
end_read kinds.Create p n q m e = absurd (cc)
end_read kinds.Write p n q m e = absurd (cc)
end_read kinds.Read p n q m e = absurd (cc)
end_read kinds.End p n q m e = refl
end_read kinds.Change p n q m e = absurd (cc)
end_read kinds.Lock p n q m e = absurd (cc)
end_read kinds.Look p n q m e = absurd (cc)
end_read kinds.List p n q m e = absurd (cc)
end_read kinds.Close p n q m e = absurd (cc)

pub end_look : (a : Kind) (p n q m : ℕ) → is_mark_end a ≡ true → shape_holds a p n kinds.Look q m ≡ true
end_look kinds.Create p n q m e = absurd (cc)
end_look kinds.Write p n q m e = absurd (cc)
end_look kinds.Read p n q m e = absurd (cc)
end_look kinds.End p n q m e = refl
end_look kinds.Change p n q m e = absurd (cc)
end_look kinds.Lock p n q m e = absurd (cc)
end_look kinds.Look p n q m e = absurd (cc)
end_look kinds.List p n q m e = absurd (cc)
end_look kinds.Close p n q m e = absurd (cc)

pub write_read : (a : Kind) (p n q m : ℕ) → is_mark_write a ≡ true → meets p n q m ≡ true → shape_holds a p n kinds.Read q m ≡ true
write_read kinds.Create p n q m e w = absurd (cc)
write_read kinds.Write p n q m e w = w
write_read kinds.Read p n q m e w = absurd (cc)
write_read kinds.End p n q m e w = absurd (cc)
write_read kinds.Change p n q m e w = absurd (cc)
write_read kinds.Lock p n q m e w = absurd (cc)
write_read kinds.Look p n q m e w = absurd (cc)
write_read kinds.List p n q m e w = absurd (cc)
write_read kinds.Close p n q m e w = absurd (cc)

pub write_write : (a : Kind) (p n q m : ℕ) → is_mark_write a ≡ true → meets p n q m ≡ true → shape_holds a p n kinds.Write q m ≡ true
write_write kinds.Create p n q m e w = absurd (cc)
write_write kinds.Write p n q m e w = w
write_write kinds.Read p n q m e w = absurd (cc)
write_write kinds.End p n q m e w = absurd (cc)
write_write kinds.Change p n q m e w = absurd (cc)
write_write kinds.Lock p n q m e w = absurd (cc)
write_write kinds.Look p n q m e w = absurd (cc)
write_write kinds.List p n q m e w = absurd (cc)
write_write kinds.Close p n q m e w = absurd (cc)

pub lock_lock : (a : Kind) (p n q m : ℕ) → is_lock_kind a ≡ true → meets p n q m ≡ true → shape_holds a p n kinds.Lock q m ≡ true
lock_lock kinds.Create p n q m e w = absurd (cc)
lock_lock kinds.Write p n q m e w = absurd (cc)
lock_lock kinds.Read p n q m e w = absurd (cc)
lock_lock kinds.End p n q m e w = absurd (cc)
lock_lock kinds.Change p n q m e w = absurd (cc)
lock_lock kinds.Lock p n q m e w = w
lock_lock kinds.Look p n q m e w = absurd (cc)
lock_lock kinds.List p n q m e w = absurd (cc)
lock_lock kinds.Close p n q m e w = absurd (cc)
