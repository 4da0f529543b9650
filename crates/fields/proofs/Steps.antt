-- Steps of paper's `Checked`, one after another: the laws of `>>=`.
use mathlib.Core.Path.{◌≡◌, refl}
use Rattle.paper.specs.Checked.{Checked, fault, says, ◌>>=◌}

-- Steps that come to the same.
pub bind_same : {X Y : Type 0} (j : Checked X) (f g : X → Checked Y) → ((x : X) → f x ≡ g x) → (j >>= f) ≡ (j >>= g)
bind_same j f g h = λ i. j >>= (λ x. h x i)

-- The same of what was said.
pub bind_said : {X Y : Type 0} (j : Checked X) (f g : X → Checked Y) → ((x : X) → j ≡ says x → f x ≡ g x) → (j >>= f) ≡ (j >>= g)
unfolding ◌>>=◌
bind_said (fault n) f g h = refl
bind_said (says x) f g h = h x refl

pub bind_bind : {X Y Z : Type 0} (j : Checked X) (f : X → Checked Y) (g : Y → Checked Z) → ((j >>= f) >>= g) ≡ (j >>= (λ x. f x >>= g))
unfolding ◌>>=◌
bind_bind (fault n) f g = refl
bind_bind (says x) f g = refl
