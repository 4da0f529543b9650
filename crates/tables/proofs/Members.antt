-- The members of a mask: which numbers they are.
use mathlib.Core.Path.{◌≡◌, refl, sym, ◌∙◌}
use mathlib.Core.Bool.{Bool, true, false, cond, false≢true}
use mathlib.Core.List.Memᴰ
use mathlib.Core.List.{◌∷◌, Memᴰ}
use Prim.Native.Nat.{ℕ, zero, suc, ◌+◌, ◌≤◌, ◌<◌}
use native.Mathlib.Omega.{arith}
use native.Mathlib.Decide.{ℕ_discrete}
use Rattle.sets.specs.Sets.{mem}
use Rattle.tables.specs.Held.{members}

-- A member lies in the stretch, and its bit is set ..
pub members_sound : (mask n k : ℕ) {q : ℕ} → Memᴰ q (members mask n k) → (n ≤ q) × (q < n + k) × (mem mask q ≡ true)
unfolding members
members_sound mask n zero m = absurd (Memᴰ.not-nil m)
members_sound mask n (suc k) {q} m = go (mem mask n) refl (λ i. let (l, h, e) = members_sound mask (suc n) k i in (omega arith, omega arith, e)) m
  where
    go : (b : Bool) → mem mask n ≡ b → (Memᴰ q (members mask (suc n) k) → (n ≤ q) × (q < n + suc k) × (mem mask q ≡ true))
        → Memᴰ q (cond b (n ∷ members mask (suc n) k) (members mask (suc n) k)) → (n ≤ q) × (q < n + suc k) × (mem mask q ≡ true)
    go true e later (Memᴰ.head same) = (omega arith, omega arith, rw same e)
    go true e later (Memᴰ.tail i) = later i
    go false e later i = later i

-- .. and every number of the stretch whose bit is set is a member.
pub members_complete : (mask n k q : ℕ) → n ≤ q → q < n + k → mem mask q ≡ true → Memᴰ q (members mask n k)
unfolding members
members_complete mask n zero q l h e = absurd (omega arith)
members_complete mask n (suc k) q l h e = elim (ℕ_discrete q n) [
  | yes same ↦ here (mem mask n) refl same
  | no other ↦ there (mem mask n) (members_complete mask (suc n) k q (omega arith) (omega arith) e)
]
  where
    here : (b : Bool) → mem mask n ≡ b → q ≡ n → Memᴰ q (cond b (n ∷ members mask (suc n) k) (members mask (suc n) k))
    here true d same = Memᴰ.head same
    here false d same = absurd (false≢true (sym d ∙ (rw same at e)))

    there : (b : Bool) → Memᴰ q (members mask (suc n) k) → Memᴰ q (cond b (n ∷ members mask (suc n) k) (members mask (suc n) k))
    there true m = Memᴰ.tail m
    there false m = m
