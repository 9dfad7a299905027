-- Of several values the first that is there.
use Rattle.std.proofs.Common.{◌≡◌, Bool, true, false, Option, Some, None, refl}
use Rattle.std.specs.Prelude.{◌||◌}
use Rattle.spec_wire.specs.messages.CreateContexts.{first, both_requests, no_requests, both_replies, no_replies}
use Rattle.spec_wire.specs.declared.messages.context.CreateContexts.{CreateContexts}
use Rattle.spec_wire.specs.declared.messages.context.ReplyContexts.{ReplyContexts}

first_assoc : {A : Type 0} (a b c : Option A) → first (first a b) c ≡ first a (first b c)
first_assoc (Some x) b c = refl
first_assoc None b c = refl

first_none : {A : Type 0} (a : Option A) → first a None ≡ a
first_none (Some x) = refl
first_none None = refl

or_assoc : (a b c : Bool) → ((a || b) || c) ≡ (a || (b || c))
or_assoc true b c = refl
or_assoc false b c = refl

or_false : (a : Bool) → (a || false) ≡ a
or_false true = refl
or_false false = refl

pub requests_assoc : (a b c : CreateContexts) → both_requests (both_requests a b) c ≡ both_requests a (both_requests b c)
requests_assoc a b c = rw (
  first_assoc a.dh2q b.dh2q c.dh2q,
  first_assoc a.dh2c b.dh2c c.dh2c,
  or_assoc a.mxac b.mxac c.mxac,
  or_assoc a.qfid b.qfid c.qfid,
) refl

pub requests_none : (a : CreateContexts) → both_requests a no_requests ≡ a
requests_none a = rw (first_none a.dh2q, first_none a.dh2c, or_false a.mxac, or_false a.qfid) refl

pub none_requests : (a : CreateContexts) → both_requests no_requests a ≡ a
none_requests a = refl

pub replies_assoc : (a b c : ReplyContexts) → both_replies (both_replies a b) c ≡ both_replies a (both_replies b c)
replies_assoc a b c = rw (first_assoc a.dh2q b.dh2q c.dh2q, first_assoc a.mxac b.mxac c.mxac, first_assoc a.qfid b.qfid c.qfid) refl

pub replies_none : (a : ReplyContexts) → both_replies a no_replies ≡ a
replies_none a = rw (first_none a.dh2q, first_none a.mxac, first_none a.qfid) refl

pub none_replies : (a : ReplyContexts) → both_replies no_replies a ≡ a
none_replies a = refl
