-- Laws of arms, for any definition. Assumes nothing.
use mathlib.Core.Path.{◌≡◌}

-- an arm knows the constructor
pub at_case : {A B : Type 0} (f : A → B) (v k : A) (x : B) → v ≡ k → x ≡ f k → x ≡ f v
at_case f v k x h e = rw h e

pub at_second : {A B C : Type 0} (f : C → A → B) (v k : A) (p : C) (x : B) → v ≡ k → x ≡ f p k → x ≡ f p v
at_second f v k p x h e = rw h e
