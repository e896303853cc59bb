-- Orders of refusals: what a row adds, and what an accepted call says of each row.
use mathlib.Core.Path.{◌≡◌, refl, ap}
use mathlib.Core.Bool.{Bool, true, false}
use Rattle.std.specs.Prelude.{Ok, Err}
use Rattle.refusal.specs.Refusal.{Answer, fault, ◌then◌, Tells, answer_number, answer_carried}
use Rattle.refusal.specs.declared.Refusal.{Refusal}

pub tells : {a b : Answer} → a ≡ b → Tells a b
tells e = (ap answer_number e, ap answer_carried e)

pub at-fault : {t : Bool} (why : Refusal) → t ≡ true → fault t why ≡ Err why
unfolding fault
at-fault why h = rw h

pub sound : {t : Bool} (why : Refusal) → t ≡ false → fault t why ≡ Ok tt
unfolding fault
sound why h = rw h

pub on : {a : Answer} (b : Answer) → a ≡ Ok tt → (a then b) ≡ b
unfolding ◌then◌
on b h = rw h

pub ends : {a : Answer} {why : Refusal} (b : Answer) → a ≡ Err why → (a then b) ≡ Err why
unfolding ◌then◌
ends b h = rw h

-- an accepted call passed each row

pub was-sound : (t : Bool) (why : Refusal) → fault t why ≡ Ok tt → t ≡ false
unfolding fault
was-sound true why h = cc
was-sound false why h = refl

pub both-on : (a b : Answer) → (a then b) ≡ Ok tt → (a ≡ Ok tt) × (b ≡ Ok tt)
unfolding ◌then◌
both-on (Ok done) b h = (refl, h)
both-on (Err why) b h = (h, cc)

pub passed : (t : Bool) (why : Refusal) {later : Answer} → (fault t why then later) ≡ Ok tt → (t ≡ false) × (later ≡ Ok tt)
passed t why {later} h = let s = both-on (fault t why) later h in (was-sound t why s.0, s.1)
