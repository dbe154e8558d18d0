-- A rule is a formula on numbers. `holds` computes whether it is so, and `Means` is what it says; that the two agree is proved once,
-- for every rule (proofs/Rules.antt).
use Rattle.std.specs.Prelude.{ℕ, ◌<◌, ◌≡◌, ◌≢◌, ◌⊎◌, Bool, true, not, ◌&&◌, ◌||◌, List, eqb, ltb, length, get_or}
use Rattle.basics.specs.Lists.{all_of}
use Rattle.basics.specs.Find.{all_below}

infix 40 ◌is◌
infix 40 ◌isnt◌
infix 40 ◌under◌
infixr 30 ◌and◌
infixr 25 ◌or◌
infixr 20 ◌gives◌
pub data Rule : Type 0 where
  ◌is◌ ◌isnt◌ ◌under◌ : ℕ → ℕ → Rule
  test : Bool → Rule
  ◌and◌ ◌or◌ ◌gives◌ : Rule → Rule → Rule
  each : ℕ → (ℕ → Rule) → Rule
  every : List ℕ → (ℕ → Rule) → Rule

abbrev pub holds : Rule → Bool
holds (x is y) = eqb x y
holds (x isnt y) = not (eqb x y)
holds (x under y) = ltb x y
holds (test b) = b
holds (r and s) = holds r && holds s
holds (r or s) = holds r || holds s
holds (r gives s) = not (holds r) || holds s
holds (each n f) = all_below n (λ i. holds (f i))
holds (every xs f) = all_of (λ x. holds (f x)) xs

abbrev pub Means : Rule → Type 0
Means (x is y) = x ≡ y
Means (x isnt y) = x ≢ y
Means (x under y) = x < y
Means (test b) = b ≡ true
Means (r and s) = Means r × Means s
Means (r or s) = Means r ⊎ Means s
Means (r gives s) = Means r → Means s
Means (each n f) = (i : ℕ) → i < n → Means (f i)
Means (every xs f) = (k : ℕ) → k < length xs → Means (f (get_or xs k 0))
