-- What holds of a result, by what holds of it.
use Rattle.std.proofs.Common.{◌≡◌, Bool, true, false, Result, Ok, Err, OnOk, OnErr}

pub ok_six : {T E A B C D F G H : Type 0} (r : Result T E) → (A → B → C → D → F → G → H) → OnOk r A → OnOk r B → OnOk r C → OnOk r D
    → OnOk r F → OnOk r G → OnOk r H
ok_six (Ok x) k a b c d f g = k a b c d f g
ok_six (Err x) k a b c d f g = tt

pub err_three : {T E A B C D : Type 0} (r : Result T E) → (A → B → C → D) → OnErr r A → OnErr r B → OnErr r C → OnErr r D
err_three (Ok x) f a b c = tt
err_three (Err x) f a b c = f a b c

pub err_four : {T E A B C D F : Type 0} (r : Result T E) → (A → B → C → D → F) → OnErr r A → OnErr r B → OnErr r C → OnErr r D → OnErr r F
err_four (Ok x) f a b c d = tt
err_four (Err x) f a b c d = f a b c d

pub ok_three : {T E A B C D : Type 0} (r : Result T E) → (A → B → C → D) → OnOk r A → OnOk r B → OnOk r C → OnOk r D
ok_three (Ok x) f a b c = f a b c
ok_three (Err x) f a b c = tt

pub clash : (b : Bool) → b ≡ true → b ≡ false → ⊥
clash true e f = absurd (cc)
clash false e f = absurd (cc)
