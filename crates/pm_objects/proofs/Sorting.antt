-- A list is told by the keys of its entries and, for each key, by the entries with it in their order.
use Rattle.std.proofs.Common.{◌≡◌, ℕ, zero, suc, ◌<◌, ◌==◌, Bool, true, false, cond, inl, inr, List, [], ◌∷◌, take, drop, take-append-drop, length, map, filter, All, refl, ap, sym, ◌∙◌, subst, arith, eq-eqb, ne_eqb, Contains}
use Rattle.std.specs.Prelude.{count_by, slice_index}
use Rattle.std.specs.List.{sum_by}
use Rattle.std.proofs.lemmas.Bool.{cases_eq, cases_Bool}
use Rattle.std.proofs.lemmas.List.{nil_from_length, get_or-map}
use Rattle.std.proofs.lemmas.List.Elements.{All-head, All-tail, Contains-append_cases, Contains-append_left, Contains-append_right}
use Rattle.std.proofs.lemmas.List.Sums.{sum_by-cons}
use Rattle.pm_perm.proofs.Contained.{contains_cases, contains_first, contains_later}
use Rattle.pm_words.specs.Word.{turned}

-- the entries with this key, as they come
abbrev pub with_key : (ℕ → ℕ) → ℕ → List ℕ → List ℕ
with_key key k entries = filter (λ entry. key entry == k) entries

with_key_yes : (key : ℕ → ℕ) (k entry : ℕ) (entries : List ℕ) → key entry ≡ k → with_key key k (entry ∷ entries) ≡ entry ∷ with_key key k entries
with_key_yes key k entry entries e = rw (eq-eqb (key entry) k e) refl

with_key_no : (key : ℕ → ℕ) (k entry : ℕ) (entries : List ℕ) → (key entry ≡ k → ⊥) → with_key key k (entry ∷ entries) ≡ with_key key k entries
with_key_no key k entry entries n = rw (ne_eqb (key entry) k n) refl

pub one_sorting : (key : ℕ → ℕ) (xs ys : List ℕ) → map key xs ≡ map key ys → ((k : ℕ) → with_key key k xs ≡ with_key key k ys) → xs ≡ ys
one_sorting key [] [] e same = refl
one_sorting key [] (y ∷ ys) e same = absurd cc
one_sorting key (x ∷ xs) [] e same = absurd cc
one_sorting key (x ∷ xs) (y ∷ ys) e same =
    let keys : key x ≡ key y = cc in
    let rest : map key xs ≡ map key ys = cc in
    let here : x ∷ with_key key (key x) xs ≡ y ∷ with_key key (key x) ys = sym (with_key_yes key (key x) x xs refl) ∙ same (key x) ∙ with_key_yes key (key x) y ys (sym keys) in
    let heads : x ≡ y = cc in
    let tails : with_key key (key x) xs ≡ with_key key (key x) ys = cc in
    let later = one_sorting key xs ys rest (λ k. elim (cases_eq (key x) k) [
      | inl is ↦ subst (λ (n : ℕ). with_key key n xs ≡ with_key key n ys) is tails
      | inr other ↦ sym (with_key_no key k x xs other) ∙ same k ∙ with_key_no key k y ys (λ f. other (keys ∙ f))
    ]) in
    cc

-- a list with these keys, and these entries of each key
pub record IsSorting (key : ℕ → ℕ) (keys : List ℕ) (lists : ℕ → List ℕ) (entries : List ℕ) : Type 0 where
  pub keys_are : map key entries ≡ keys
  pub lists_are : (k : ℕ) → with_key key k entries ≡ lists k

-- the lists, with another one for one key
pub instead : (ℕ → List ℕ) → ℕ → List ℕ → ℕ → List ℕ
instead lists k list n = cond (n == k) list (lists n)

pub instead_here : (lists : ℕ → List ℕ) (k : ℕ) (list : List ℕ) (n : ℕ) → n ≡ k → instead lists k list n ≡ list
unfolding instead
instead_here lists k list n e = rw (eq-eqb n k e) refl

pub instead_other : (lists : ℕ → List ℕ) (k : ℕ) (list : List ℕ) (n : ℕ) → (n ≡ k → ⊥) → instead lists k list n ≡ lists n
unfolding instead
instead_other lists k list n apart = rw (ne_eqb n k apart) refl

pub count_yes : (k x : ℕ) (xs : List ℕ) → x ≡ k → count_by (λ y. y == k) (x ∷ xs) ≡ suc (count_by (λ y. y == k) xs)
count_yes k x xs e =
    let a = sum_by-cons (λ (y : ℕ). cond (y == k) 1 0) x xs in
    let b : cond {A = ℕ} (x == k) 1 0 ≡ 1 = rw (eq-eqb x k e) refl in
    omega (arith, a, b)

pub count_no : (k x : ℕ) (xs : List ℕ) → (x ≡ k → ⊥) → count_by (λ y. y == k) (x ∷ xs) ≡ count_by (λ y. y == k) xs
count_no k x xs n =
    let a = sum_by-cons (λ (y : ℕ). cond (y == k) 1 0) x xs in
    let b : cond {A = ℕ} (x == k) 1 0 ≡ 0 = rw (ne_eqb x k n) refl in
    omega (arith, a, b)

some_entry : (list : List ℕ) → 0 < length list → (first : ℕ) × (later : List ℕ) × (list ≡ first ∷ later)
some_entry [] some = absurd (omega arith)
some_entry (first ∷ later) some = (first, later, refl)

-- one key more, with the first entry of its list
module _ (key : ℕ → ℕ) (k : ℕ) (keys : List ℕ) (lists : ℕ → List ℕ) (first : ℕ) (later : List ℕ) (list_is : lists k ≡ first ∷ later) where
  later_long : ((n : ℕ) → length (lists n) ≡ count_by (λ y. y == n) (k ∷ keys)) → (n : ℕ) → length (instead lists k later n) ≡ count_by (λ y. y == n) keys
  later_long long n = elim (cases_eq n k) [
    | inl is ↦
        let a = ap length (instead_here lists k later n is) in
        let b = ap length (ap lists is ∙ list_is) in
        let c = long n in
        let d = count_yes n k keys (sym is) in
        omega (arith, a, b, c, d)
    | inr apart ↦
        let a = ap length (instead_other lists k later n apart) in
        let b = long n in
        let c = count_no n k keys (λ e. apart (sym e)) in
        omega (arith, a, b, c)
  ]

  first_keys : ((n : ℕ) → All (λ entry. key entry ≡ n) (lists n)) → All (λ entry. key entry ≡ k) (first ∷ later)
  first_keys each = subst (λ (list : List ℕ). All (λ entry. key entry ≡ k) list) list_is (each k)

  later_keys : ((n : ℕ) → All (λ entry. key entry ≡ n) (lists n)) → (n : ℕ) → All (λ entry. key entry ≡ n) (instead lists k later n)
  later_keys each n = elim (cases_eq n k) [
    | inl is ↦ subst (λ (list : List ℕ). All (λ entry. key entry ≡ n) list) (sym (instead_here lists k later n is))
        (subst (λ (m : ℕ). All (λ entry. key entry ≡ m) later) (sym is) (All-tail (λ entry. key entry ≡ k) first later (first_keys each)))
    | inr apart ↦ subst (λ (list : List ℕ). All (λ entry. key entry ≡ n) list) (sym (instead_other lists k later n apart)) (each n)
  ]

  sorted_more : (entries : List ℕ) → key first ≡ k → IsSorting key keys (instead lists k later) entries → IsSorting key (k ∷ keys) lists (first ∷ entries)
  sorted_more entries key_is s = record {
    keys_are = let r = s.keys_are in cc;
    lists_are = λ n. elim (cases_eq n k) [
      | inl is ↦
          with_key_yes key n first entries (key_is ∙ sym is) ∙ ap (λ (list : List ℕ). first ∷ list) (s.lists_are n ∙ instead_here lists k later n is) ∙ sym list_is ∙ ap lists (sym is)
      | inr apart ↦ with_key_no key n first entries (λ e. apart (sym e ∙ key_is)) ∙ s.lists_are n ∙ instead_other lists k later n apart
    ];
  }

pub sorting_exists : (key : ℕ → ℕ) (keys : List ℕ) (lists : ℕ → List ℕ) → ((k : ℕ) → length (lists k) ≡ count_by (λ y. y == k) keys) → ((k : ℕ) → All (λ entry. key entry ≡ k) (lists k))
    → (entries : List ℕ) × IsSorting key keys lists entries
sorting_exists key [] lists long each = ([], record { keys_are = refl; lists_are = λ k. sym (nil_from_length (lists k) (long k)) })
sorting_exists key (k ∷ keys) lists long each =
    let counted = count_yes k k keys refl in
    let some = some_entry (lists k) (let l = long k in omega (arith, l, counted)) in
    let h = sorting_exists key keys (instead lists k some.1) (later_long key k keys lists some.0 some.1 some.2 long) (later_keys key k keys lists some.0 some.1 some.2 each) in (
      some.0 ∷ h.0,
      sorted_more key k keys lists some.0 some.1 some.2 h.0 (All-head (λ entry. key entry ≡ k) some.0 some.1 (first_keys key k keys lists some.0 some.1 some.2 each)) h.1,
    )

filter_true : (p : ℕ → Bool) (x : ℕ) (xs : List ℕ) → p x ≡ true → filter p (x ∷ xs) ≡ x ∷ filter p xs
filter_true p x xs e = rw e refl

filter_false : (p : ℕ → Bool) (x : ℕ) (xs : List ℕ) → p x ≡ false → filter p (x ∷ xs) ≡ filter p xs
filter_false p x xs e = rw e refl

pub stands_kept : (p : ℕ → Bool) (xs : List ℕ) (n : ℕ) → Contains xs n → p n ≡ true → Contains (filter p xs) n
stands_kept p [] n s passes = s
stands_kept p (x ∷ xs) n s passes = elim (cases_Bool (p x)) [
  | inl kept ↦ subst (λ (list : List ℕ). Contains list n) (sym (filter_true p x xs kept)) (elim (contains_cases x xs n s) [
    | inl here ↦ contains_first x n (filter p xs) here
    | inr later ↦ contains_later x (filter p xs) n (stands_kept p xs n later passes)
  ])
  | inr dropped ↦ subst (λ (list : List ℕ). Contains list n) (sym (filter_false p x xs dropped)) (elim (contains_cases x xs n s) [
    | inl here ↦ (let t : true ≡ false = sym passes ∙ ap p (sym here) ∙ dropped in cc)
    | inr later ↦ stands_kept p xs n later passes
  ])
]

pub stands_before : (p : ℕ → Bool) (xs : List ℕ) (n : ℕ) → Contains (filter p xs) n → Contains xs n
stands_before p [] n s = s
stands_before p (x ∷ xs) n s = elim (cases_Bool (p x)) [
  | inl kept ↦ elim (contains_cases x (filter p xs) n (subst (λ (list : List ℕ). Contains list n) (filter_true p x xs kept) s)) [
    | inl here ↦ contains_first x n xs here
    | inr later ↦ contains_later x xs n (stands_before p xs n later)
  ]
  | inr dropped ↦ contains_later x xs n (stands_before p xs n (subst (λ (list : List ℕ). Contains list n) (filter_false p x xs dropped) s))
]

-- a sum over the entries that are kept
pub sum_by-kept : (f : ℕ → ℕ) (p : ℕ → Bool) (xs : List ℕ) → sum_by f (filter p xs) ≡ sum_by (λ x. cond (p x) (f x) 0) xs
sum_by-kept f p [] = refl
sum_by-kept f p (x ∷ xs) =
    let h = sum_by-kept f p xs in
    let a = sum_by-cons (λ (x : ℕ). cond (p x) (f x) 0) x xs in
    elim (cases_Bool (p x)) [
      | inl kept ↦
          let b = ap (sum_by f) (filter_true p x xs kept) in
          let c = sum_by-cons f x (filter p xs) in
          let d : cond {A = ℕ} (p x) (f x) 0 ≡ f x = rw kept refl in
          omega (arith, a, b, c, d, h)
      | inr dropped ↦
          let b = ap (sum_by f) (filter_false p x xs dropped) in
          let d : cond {A = ℕ} (p x) (f x) 0 ≡ 0 = rw dropped refl in
          omega (arith, a, b, d, h)
    ]

-- a list that is turned has the same entries
pub stands_turned : (start : ℕ) (xs : List ℕ) (n : ℕ) → Contains xs n → Contains (turned start xs) n
stands_turned start xs n s = elim (Contains-append_cases (take start xs) (drop start xs) n (subst (λ (list : List ℕ). Contains list n) (sym (take-append-drop start xs)) s)) [
  | inl prefix ↦ Contains-append_right (drop start xs) (take start xs) n prefix
  | inr back ↦ Contains-append_left (drop start xs) (take start xs) n back
]

-- an entry is found in the list of its key, behind the earlier entries with this key
pub entry_with_key : (key : ℕ → ℕ) (k : ℕ) (entries : List ℕ) (place : ℕ) → place < length entries → key (slice_index entries place) ≡ k
    → slice_index (with_key key k entries) (count_by (λ y. y == k) (take place (map key entries))) ≡ slice_index entries place
entry_with_key key k [] place less e = absurd (omega (arith, less))
entry_with_key key k (x ∷ xs) zero less e = ap (λ (list : List ℕ). slice_index list 0) (with_key_yes key k x xs e)
entry_with_key key k (x ∷ xs) (suc place) less e =
    let h = entry_with_key key k xs place (omega (arith, less)) e in
    elim (cases_eq (key x) k) [
      | inl here ↦
          ap (slice_index (with_key key k (x ∷ xs))) (count_yes k (key x) (take place (map key xs)) here)
          ∙ ap (λ (list : List ℕ). slice_index list (suc (count_by (λ y. y == k) (take place (map key xs))))) (with_key_yes key k x xs here) ∙ h
      | inr other ↦
          ap (slice_index (with_key key k (x ∷ xs))) (count_no k (key x) (take place (map key xs)) other)
          ∙ ap (λ (list : List ℕ). slice_index list (count_by (λ y. y == k) (take place (map key xs)))) (with_key_no key k x xs other) ∙ h
    ]

-- so the entries are where the lists have them
pub sorted_at : (key : ℕ → ℕ) (keys : List ℕ) (lists : ℕ → List ℕ) (entries : List ℕ) (place : ℕ) → IsSorting key keys lists entries → place < length entries
    → slice_index entries place ≡ slice_index (lists (slice_index keys place)) (count_by (λ y. y == slice_index keys place) (take place keys))
sorted_at key keys lists entries place s less =
    let keys_are = s.keys_are in
    let here : key (slice_index entries place) ≡ slice_index keys place = sym (get_or-map key entries place 0 0 less) ∙ ap (λ (ks : List ℕ). slice_index ks place) keys_are in
    sym (entry_with_key key (slice_index keys place) entries place less here)
    ∙ ap (λ (list : List ℕ). slice_index list (count_by (λ y. y == slice_index keys place) (take place (map key entries)))) (s.lists_are (slice_index keys place))
    ∙ ap (λ (ks : List ℕ). slice_index (lists (slice_index keys place)) (count_by (λ y. y == slice_index keys place) (take place ks))) keys_are
