-- The numbers of a cycle as a list: the exchange of two values splits it, or puts two together.
use Rattle.std.proofs.Common.{◌≡◌, ◌≢◌, ℕ, zero, suc, ◌+◌, ◌-◌, ◌<◌, List, [], ◌∷◌, ◌++◌, length, length-append, slice_index, get_or-append-add, Contains, inl, inr, refl, sym, ◌∙◌, ap, subst, arith}
use Rattle.std.proofs.lemmas.Bool.{cases_eq}
use Rattle.std.proofs.lemmas.List.{get_or_append_left}
use Rattle.std.proofs.lemmas.Option.{get_or_from_slice_get, slice_get_within}
use Rattle.pm_perm.specs.Permutation.{IsPermutationBelow}
use Rattle.pm_perm.specs.Cycles.{repeated, IsInCycle}
use Rattle.pm_perm.specs.Exchange.{IsExchangeBelow}
use Rattle.pm_perm.specs.CycleList.{IsCycleFrom, ExchangeSplitsCycle, ExchangeJoinsCycles, ExchangeLeavesCycles}
use Rattle.pm_perm.proofs.Contained.{contains_at, is_at}
use Rattle.pm_perm.proofs.Repeats.{repeated-inside, repeated-back}
use Rattle.pm_perm.proofs.SameCycle.{in_cycle-back}
use Rattle.pm_perm.proofs.Merged.{exchange-back, exchange-permutes}

-- an entry is met after as many steps as stand before it
pub cycle-entry : (f : ℕ → ℕ) (d : ℕ) (numbers : List ℕ) → IsCycleFrom f d numbers → (k : ℕ) → k < length numbers → slice_index numbers k ≡ repeated f k d
cycle-entry f d numbers c zero h = get_or_from_slice_get numbers 0 d 0 c.begins
cycle-entry f d numbers c (suc k) h = c.goes k h ∙ ap f (cycle-entry f d numbers c k (omega arith))

-- so it is in the cycle
pub cycle-entry_in : (f : ℕ → ℕ) (d : ℕ) (numbers : List ℕ) → IsCycleFrom f d numbers → (k : ℕ) → k < length numbers → IsInCycle f d (slice_index numbers k)
cycle-entry_in f d numbers c k h = record { steps = k; leads = sym (cycle-entry f d numbers c k h) }

-- and each number of the cycle is an entry
pub cycle-contains : (f : ℕ → ℕ) (d e : ℕ) (numbers : List ℕ) → IsCycleFrom f d numbers → IsInCycle f d e → Contains numbers e
cycle-contains f d e numbers c one = subst (λ x. Contains numbers x) one.leads (met f d numbers c one.steps) where
  first : (f : ℕ → ℕ) (d : ℕ) (numbers : List ℕ) → IsCycleFrom f d numbers → Contains numbers d
  first f d numbers c = contains_at numbers d 0 (slice_get_within numbers 0 d c.begins) (get_or_from_slice_get numbers 0 d 0 c.begins)

  met : (f : ℕ → ℕ) (d : ℕ) (numbers : List ℕ) → IsCycleFrom f d numbers → (steps : ℕ) → Contains numbers (repeated f steps d)
  met f d numbers c zero = first f d numbers c
  met f d numbers c (suc steps) =
      let before : Contains numbers (repeated f steps d) = met f d numbers c steps in
      let here : slice_index numbers before.0 ≡ repeated f steps d = is_at numbers (repeated f steps d) before in
      elim (cases_eq before.0 (length numbers - 1)) [
        | inl last ↦ subst (λ x. Contains numbers x) (sym (sym (ap f here) ∙ ap (λ k. f (slice_index numbers k)) last ∙ c.ends)) (first f d numbers c)
        | inr more ↦
            let within : suc before.0 < length numbers = omega (arith, before.1, more) in
            contains_at numbers (repeated f (suc steps) d) (suc before.0) within (c.goes before.0 within ∙ ap f here)
      ]

-- and entries at two places differ
pub cycle-apart : (n : ℕ) (f : ℕ → ℕ) (d : ℕ) (numbers : List ℕ) → IsPermutationBelow n f → d < n → IsCycleFrom f d numbers
    → (i j : ℕ) → i < j → j < length numbers → slice_index numbers i ≡ slice_index numbers j → ⊥
cycle-apart n f d numbers p hd c i j less h e =
    let whole : suc (j - suc i) ≡ j - i = omega arith in
    let later : suc (j - suc i) < length numbers = omega arith in
    let back = repeated-back n f i j d p hd less (sym (cycle-entry f d numbers c i (omega arith)) ∙ e ∙ cycle-entry f d numbers c j h) in
    c.once (j - suc i) later (cycle-entry f d numbers c (suc (j - suc i)) later ∙ ap (λ k. repeated f k d) whole ∙ back)

-- f leads from d over these numbers, one after another, to the end
abbrev LeadsAlong : (ℕ → ℕ) → ℕ → List ℕ → ℕ → Type 0
LeadsAlong f d [] end = f d ≡ end
LeadsAlong f d (e ∷ rest) end = (f d ≡ e) × LeadsAlong f e rest end

along_from : (f : ℕ → ℕ) (d end : ℕ) (rest : List ℕ) → ((k : ℕ) → suc k < length (d ∷ rest) → slice_index (d ∷ rest) (suc k) ≡ f (slice_index (d ∷ rest) k))
    → f (slice_index (d ∷ rest) (length rest)) ≡ end → LeadsAlong f d rest end
along_from f d end [] goes ends = ends
along_from f d end (e ∷ rest) goes ends = (sym (goes 0 (omega arith)), along_from f e end rest (λ k h. goes (suc k) (omega arith)) ends)

along-goes : (f : ℕ → ℕ) (d end : ℕ) (rest : List ℕ) → LeadsAlong f d rest end → (k : ℕ) → suc k < length (d ∷ rest) → slice_index (d ∷ rest) (suc k) ≡ f (slice_index (d ∷ rest) k)
along-goes f d end [] l k h = absurd (omega arith)
along-goes f d end (e ∷ rest) l zero h = sym l.0
along-goes f d end (e ∷ rest) l (suc k) h = along-goes f e end rest l.1 k (omega arith)

along-ends : (f : ℕ → ℕ) (d end : ℕ) (rest : List ℕ) → LeadsAlong f d rest end → f (slice_index (d ∷ rest) (length rest)) ≡ end
along-ends f d end [] l = l
along-ends f d end (e ∷ rest) l = along-ends f e end rest l.1

along-append : (f : ℕ → ℕ) (d y end : ℕ) (first second : List ℕ) → LeadsAlong f d first y → LeadsAlong f y second end → LeadsAlong f d (first ++ y ∷ second) end
along-append f d y end [] second a b = (a, b)
along-append f d y end (x ∷ first) second a b = (a.0, along-append f x y end first second a.1 b)

along-split : (f : ℕ → ℕ) (d y end : ℕ) (first second : List ℕ) → LeadsAlong f d (first ++ y ∷ second) end → LeadsAlong f d first y × LeadsAlong f y second end
along-split f d y end [] second l = (l.0, l.1)
along-split f d y end (x ∷ first) second l = (let rest = along-split f x y end first second l.1 in ((l.0, rest.0), rest.1))

-- each entry is below the size and neither a nor b
abbrev AreOthers : ℕ → ℕ → ℕ → List ℕ → Type 0
AreOthers n a b numbers = (k : ℕ) → k < length numbers → (slice_index numbers k < n) × (slice_index numbers k ≢ a) × (slice_index numbers k ≢ b)

-- where the exchange leads from e to where f leads from d, and on over others, it leads on as f does
along-others : (n : ℕ) (f g : ℕ → ℕ) (a b d e end : ℕ) (rest : List ℕ) → IsExchangeBelow n f g a b → AreOthers n a b rest → g e ≡ f d → LeadsAlong f d rest end → LeadsAlong g e rest end
along-others n f g a b d e end [] x others same l = same ∙ l
along-others n f g a b d e end (first ∷ rest) x others same l =
    let here = others 0 (omega arith) in
    (same ∙ l.0, along-others n f g a b first first end rest x (λ k h. others (suc k) (omega arith)) (x.elsewhere first here.0 here.1 here.2) l.1)

cycle_along : (f : ℕ → ℕ) (d : ℕ) (rest : List ℕ) → IsCycleFrom f d (d ∷ rest) → LeadsAlong f d rest d
cycle_along f d rest c =
    let last : length (d ∷ rest) - 1 ≡ length rest = omega arith in
    along_from f d d rest c.goes (ap (λ k. f (slice_index (d ∷ rest) k)) (sym last) ∙ c.ends)

along_cycle : (f : ℕ → ℕ) (d : ℕ) (rest : List ℕ) → LeadsAlong f d rest d → ((k : ℕ) → k < length rest → slice_index rest k ≢ d) → IsCycleFrom f d (d ∷ rest)
along_cycle f d rest l once =
    let last : length (d ∷ rest) - 1 ≡ length rest = omega arith in
    record {
      begins = refl;
      goes = along-goes f d d rest l;
      ends = ap (λ k. f (slice_index (d ∷ rest) k)) last ∙ along-ends f d d rest l;
      once = λ k h. once k (omega arith);
    }

pub cycle-splits : ExchangeSplitsCycle
cycle-splits n f g a b first second p ha x c =
    let numbers : List ℕ = a ∷ first ++ b ∷ second in
    let parts = along-split f a b a first second (cycle_along f a (first ++ b ∷ second) c) in
    let long : length numbers ≡ suc (length first + suc (length second)) = (let l = length-append first (b ∷ second) in omega (arith, l)) in
    let at_first : (k : ℕ) → k < length first → slice_index numbers (suc k) ≡ slice_index first k = λ k h. get_or_append_left first (b ∷ second) 0 k h in
    let at_b : slice_index numbers (suc (length first + 0)) ≡ b = get_or-append-add first (b ∷ second) 0 0 in
    let at_second : (k : ℕ) → slice_index numbers (suc (length first + suc k)) ≡ slice_index second k = λ k. get_or-append-add first (b ∷ second) (suc k) 0 in
    let inside : (k : ℕ) → k < length numbers → slice_index numbers k < n = λ k h. (let e = cycle-entry f a numbers c k h in let l = repeated-inside f n p k a ha in omega (arith, e, l)) in
    let apart : (i j : ℕ) → i < j → j < length numbers → slice_index numbers i ≡ slice_index numbers j → ⊥ = cycle-apart n f a numbers p ha c in
    let first_others : AreOthers n a b first = λ k h. (
      (let e = at_first k h in let l = inside (suc k) (omega arith) in omega (arith, e, l)),
      (λ e. apart 0 (suc k) (omega arith) (omega arith) (sym e ∙ sym (at_first k h))),
      (λ e. apart (suc k) (suc (length first + 0)) (omega arith) (omega arith) (at_first k h ∙ e ∙ sym at_b)),
    ) in
    let second_others : AreOthers n a b second = λ k h. (
      (let e = at_second k in let l = inside (suc (length first + suc k)) (omega arith) in omega (arith, e, l)),
      (λ e. apart 0 (suc (length first + suc k)) (omega arith) (omega arith) (sym e ∙ sym (at_second k))),
      (λ e. apart (suc (length first + 0)) (suc (length first + suc k)) (omega arith) (omega arith) (at_b ∙ sym e ∙ sym (at_second k))),
    ) in (
      along_cycle g a second (along-others n f g a b b a a second x second_others x.at_first parts.1) (λ k h. (second_others k h).1),
      along_cycle g b first (along-others n f g a b a b b first x first_others x.at_second parts.0) (λ k h. (first_others k h).2),
    )

-- none of two lists with b between them is a
none_append : (a b : ℕ) (first second : List ℕ) → b ≢ a → ((k : ℕ) → k < length first → slice_index first k ≢ a) → ((k : ℕ) → k < length second → slice_index second k ≢ a)
    → (k : ℕ) → k < length (first ++ b ∷ second) → slice_index (first ++ b ∷ second) k ≢ a
none_append a b [] second differ none none' zero h = differ
none_append a b [] second differ none none' (suc k) h = none' k (omega arith)
none_append a b (x ∷ first) second differ none none' zero h = none 0 (omega arith)
none_append a b (x ∷ first) second differ none none' (suc k) h = none_append a b first second differ (λ i l. none (suc i) (omega arith)) none' k (omega arith)

-- the entries after the first are in the cycle, and none is the first
cycle_others : (n : ℕ) (f : ℕ → ℕ) (d : ℕ) (rest : List ℕ) → IsPermutationBelow n f → d < n → IsCycleFrom f d (d ∷ rest) → (k : ℕ) → k < length rest
    → (slice_index rest k < n) × (slice_index rest k ≢ d) × IsInCycle f d (slice_index rest k)
cycle_others n f d rest p hd c k h = (
  (let e = cycle-entry f d (d ∷ rest) c (suc k) (omega arith) in let l = repeated-inside f n p (suc k) d hd in omega (arith, e, l)),
  c.once k (omega arith),
  cycle-entry_in f d (d ∷ rest) c (suc k) (omega arith),
)

pub cycles-join : ExchangeJoinsCycles
cycles-join n f g a b first second p ha hb x apart of_a of_b =
    let first_others : AreOthers n a b first = λ k h. (
    let o = cycle_others n f b first p hb of_b k h in
    (o.0, (λ e. apart (in_cycle-back n f p b a hb (record { steps = o.2.steps; leads = o.2.leads ∙ e }))), o.1)
    ) in
    let second_others : AreOthers n a b second = λ k h. (
    let o = cycle_others n f a second p ha of_a k h in
    (o.0, o.1, (λ e. apart (record { steps = o.2.steps; leads = o.2.leads ∙ e })))
    ) in
    along_cycle g a (first ++ b ∷ second)
    (along-append g a b a first second (along-others n f g a b b a b first x first_others x.at_first (cycle_along f b first of_b)) (along-others n f g a b a b a second x second_others x.at_second (cycle_along f a second of_a)))
    (none_append a b first second (λ e. apart (record { steps = 0; leads = sym e })) (λ k h. (first_others k h).1) (λ k h. (second_others k h).1))

left_goes : (n : ℕ) (f g : ℕ → ℕ) (a b d : ℕ) (numbers : List ℕ) → IsPermutationBelow n f → d < n → IsExchangeBelow n f g a b
    → (IsInCycle f d a → ⊥) → (IsInCycle f d b → ⊥) → IsCycleFrom f d numbers → IsCycleFrom g d numbers
left_goes n f g a b d numbers p hd x not_a not_b c =
    let same : (k : ℕ) → k < length numbers → g (slice_index numbers k) ≡ f (slice_index numbers k) = λ k h.
    (let met = cycle-entry_in f d numbers c k h in
    x.elsewhere (slice_index numbers k) (let e = cycle-entry f d numbers c k h in let l = repeated-inside f n p k d hd in omega (arith, e, l))
    (λ e. not_a (record { steps = met.steps; leads = met.leads ∙ e })) (λ e. not_b (record { steps = met.steps; leads = met.leads ∙ e }))) in
    let some : 0 < length numbers = slice_get_within numbers 0 d c.begins in
    record {
      begins = c.begins;
      goes = λ k h. c.goes k h ∙ sym (same k (omega arith));
      ends = same (length numbers - 1) (omega arith) ∙ c.ends;
      once = c.once;
    }

-- steps along a cycle without a and b are the same after the exchange
left_steps : (n : ℕ) (f g : ℕ → ℕ) (a b d : ℕ) → IsPermutationBelow n f → d < n → IsExchangeBelow n f g a b → (IsInCycle f d a → ⊥) → (IsInCycle f d b → ⊥)
    → (k : ℕ) → repeated g k d ≡ repeated f k d
left_steps n f g a b d p hd x not_a not_b zero = refl
left_steps n f g a b d p hd x not_a not_b (suc k) =
    ap g (left_steps n f g a b d p hd x not_a not_b k)
    ∙ x.elsewhere (repeated f k d) (repeated-inside f n p k d hd) (λ e. not_a (record { steps = k; leads = e })) (λ e. not_b (record { steps = k; leads = e }))

pub cycle-left : ExchangeLeavesCycles
cycle-left n f g a b d numbers p ha hb hd x not_a not_b =
    let steps = left_steps n f g a b d p hd x not_a not_b in (
      left_goes n f g a b d numbers p hd x not_a not_b,
      left_goes n g f a b d numbers (exchange-permutes n f g a b p ha hb x) hd (exchange-back n f g a b x)
          (λ met. not_a (record { steps = met.steps; leads = sym (steps met.steps) ∙ met.leads }))
          (λ met. not_b (record { steps = met.steps; leads = sym (steps met.steps) ∙ met.leads })),
    )
