-- An option by its test.
use Rattle.std.proofs.Common.{◌≡◌, true, false, is_some, Some, None, Option, refl}
use Rattle.std.proofs.lemmas.Bool.{false≢true, both_ways}

pub some_of : {T : Type 0} (o : Option T) → is_some o ≡ true → (x : T) × (o ≡ Some x)
some_of None e = absurd (false≢true e)
some_of (Some x) e = (x, refl)

pub none_of : {T : Type 0} (o : Option T) → is_some o ≡ false → o ≡ None
none_of None e = refl
none_of (Some x) e = absurd (both_ways true e refl)
