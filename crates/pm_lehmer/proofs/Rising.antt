-- A list whose entries are sent to other numbers in the same order has the same code.
use Rattle.std.proofs.Common.{◌≡◌, ℕ, suc, ◌<◌, ◌≤◌, inl, inr, List, [], ◌∷◌, map, All, refl, ap, ap₂, sym, ◌∙◌, arith}
use Rattle.std.proofs.lemmas.Bool.{cases_lt, cases_order}
use Rattle.std.proofs.lemmas.List.Elements.{All-head, All-tail}
use Rattle.pm_lehmer.specs.Lehmer.{count_below, code_of}
use Rattle.pm_lehmer.proofs.CountBelow.{count_below-nil, count_below-smaller, count_below-other}

-- numbers below the size are sent to numbers in the same order
pub record Rises (size : ℕ) (f : ℕ → ℕ) : Type 0 where
  pub rises : (low high : ℕ) → low < high → high < size → f low < f high

keeps_order : (size : ℕ) (f : ℕ → ℕ) (x y : ℕ) → Rises size f → x < size → y < size → y ≤ x → f y ≤ f x
keeps_order size f x y r in_x in_y le = elim (cases_order y x) [
  | inl same ↦ (let e = ap f same in omega (arith, e))
  | inr apart ↦ elim apart [
    | inl less ↦ (let h = r.rises y x less in_x in omega (arith, h))
    | inr more ↦ absurd (omega (arith, le, more))
  ]
]

count_below-rising : (size : ℕ) (f : ℕ → ℕ) (x : ℕ) (entries : List ℕ) → Rises size f → x < size → All (λ entry. entry < size) entries → count_below (f x) (map f entries) ≡ count_below x entries
count_below-rising size f x [] r within all = count_below-nil (f x) ∙ sym (count_below-nil x)
count_below-rising size f x (entry ∷ entries) r within all =
    let here : entry < size = All-head (λ entry. entry < size) entry entries all in
    let h = count_below-rising size f x entries r within (All-tail (λ entry. entry < size) entry entries all) in
    elim (cases_lt entry x) [
      | inl less ↦ count_below-smaller (f x) (f entry) (map f entries) (r.rises entry x less within) ∙ ap suc h ∙ sym (count_below-smaller x entry entries less)
      | inr other ↦ count_below-other (f x) (f entry) (map f entries) (keeps_order size f entry x r here within other) ∙ h ∙ sym (count_below-other x entry entries other)
    ]

pub code_of-rising : (size : ℕ) (f : ℕ → ℕ) (entries : List ℕ) → Rises size f → All (λ entry. entry < size) entries → code_of (map f entries) ≡ code_of entries
code_of-rising size f [] r all = refl
code_of-rising size f (entry ∷ entries) r all =
    let rest : All (λ entry. entry < size) entries = All-tail (λ entry. entry < size) entry entries all in
    ap₂ {A = ℕ} (λ n ns. n ∷ ns) (count_below-rising size f entry entries r (All-head (λ entry. entry < size) entry entries all) rest) (code_of-rising size f entries r rest)
