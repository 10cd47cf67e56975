-- The reading of a word that counts the nodes of each degree: those that were closed are in the table, and those that are
-- open or to come have what is still to be read.
use Rattle.std.proofs.Common.{◌≡◌, ℕ, zero, suc, ◌+◌, ◌≤◌, ◌<◌, ◌==◌, ◌||◌, Bool, true, cond, inl, inr, List, [], ◌∷◌, ◌++◌, length, drop, reverse, set, slice_index, get_or, Option, Some, option_to_list, replicate, refl, ap, ap₂, sym, ◌∙◌, subst, arith, drop-cons, eq-eqb, ne_eqb, eqb-true}
use Rattle.std.proofs.lemmas.Bool.{cases_eq, cases_lt, cases_Bool, and_parts, or_cases}
use Rattle.std.proofs.lemmas.List.{drop_all, nil_from_length, length_push, get_or_read, get_or-set_same, get_or-set_other, get_or_past, length-set, length-replicate, get_or-replicate}
use Rattle.pm_limits.specs.declared.TheConstants.{MAX_DEGREE}
use Rattle.pm_trees.specs.declared.letters.TheConstants.{BUD}
use Rattle.pm_brackets.specs.declared.letters.TheConstants.{OPEN, CLOSE}
use Rattle.pm_brackets.specs.Word.{IsMatched}
use Rattle.pm_trees.specs.Word.{contour}
use Rattle.pm_trees.specs.Node.{IsNode, IsDegree, degree, own_letters}
use Rattle.pm_trees.specs.Blossoming.{IsBlossoming}
use Rattle.pm_trees.specs.Degrees.{has_degree, nodes_before, nodes_of}
use Rattle.pm_trees.specs.steps.Counts.{AreCounts}
use Rattle.pm_brackets.proofs.Tally.{tally}
use Rattle.pm_brackets.specs.Word.{IsOther}
use Rattle.pm_trees.proofs.Own.{own_length, own_length_is, own_length-nil, own_length_other_here, own_length_other_above, own_length_open_here, own_length_open_above, own_length_close_here, own_length_close_above}
use Rattle.pm_brackets.proofs.NodeWalk.{none_open, reverse_pop, reverse_push, some_open}
use Rattle.pm_brackets.proofs.Levels.{seen, seen_none, seen_yes, seen_no, inside}
use Rattle.pm_trees.proofs.Weights.{value, value_is, inner, inner-nil, inner_open, inner_other}
use Rattle.pm_trees.proofs.Rings.{of_degree, of_degree_is, contour_weight, nodes_weight}

-- 1 where the numbers are the same
pub unit : ℕ → ℕ → ℕ
unit d n = cond (n == d) 1 0

pub unit_yes : (d n : ℕ) → n ≡ d → unit d n ≡ 1
unfolding unit
unit_yes d n e = rw (eq-eqb n d e) refl

pub unit_no : (d n : ℕ) → (n ≡ d → ⊥) → unit d n ≡ 0
unfolding unit
unit_no d n m = rw (ne_eqb n d m) refl

unit_value : (d : ℕ) (xs : List ℕ) → value (of_degree d) 1 xs ≡ unit d (suc (own_length 0 xs))
unfolding unit
unit_value d xs =
    let a = own_length_is 0 xs in
    let e : 1 + length (own_letters 0 xs) ≡ suc (own_length 0 xs) = omega (arith, a) in
    value_is (of_degree d) 1 xs ∙ of_degree_is d (1 + length (own_letters 0 xs)) (tally BUD (own_letters 0 xs)) ∙ ap (λ (n : ℕ). cond {A = ℕ} (n == d) 1 0) e

-- the open nodes of a degree, the nearest first, by their entries so far and those to come
pending : ℕ → ℕ → List ℕ → List ℕ → ℕ
pending d k [] xs = 0
pending d k (n ∷ ns) xs = unit d (suc (n + own_length k xs)) + pending d (suc k) ns xs

pending-nil : (d k : ℕ) (xs : List ℕ) → pending d k [] xs ≡ 0
unfolding pending
pending-nil d k xs = refl

pending-cons : (d k n : ℕ) (ns xs : List ℕ) → pending d k (n ∷ ns) xs ≡ unit d (suc (n + own_length k xs)) + pending d (suc k) ns xs
unfolding pending
pending-cons d k n ns xs = refl

pending_other : (d k x : ℕ) (ns xs : List ℕ) → IsOther x → pending d (suc k) ns (x ∷ xs) ≡ pending d (suc k) ns xs
pending_other d k x [] xs o = pending-nil d (suc k) (x ∷ xs) ∙ sym (pending-nil d (suc k) xs)
pending_other d k x (n ∷ ns) xs o =
    let a = pending-cons d (suc k) n ns (x ∷ xs) in
    let b = pending-cons d (suc k) n ns xs in
    let c = ap (λ (m : ℕ). unit d (suc (n + m))) (own_length_other_above k x xs o) in
    let h = pending_other d (suc k) x ns xs o in
    omega (arith, a, b, c, h)

pending_open : (d k : ℕ) (ns xs : List ℕ) → pending d (suc k) ns (OPEN ∷ xs) ≡ pending d (suc (suc k)) ns xs
pending_open d k [] xs = pending-nil d (suc k) (OPEN ∷ xs) ∙ sym (pending-nil d (suc (suc k)) xs)
pending_open d k (n ∷ ns) xs =
    let a = pending-cons d (suc k) n ns (OPEN ∷ xs) in
    let b = pending-cons d (suc (suc k)) n ns xs in
    let c = ap (λ (m : ℕ). unit d (suc (n + m))) (own_length_open_above k xs) in
    let h = pending_open d (suc k) ns xs in
    omega (arith, a, b, c, h)

pending_close : (d k : ℕ) (ns xs : List ℕ) → pending d (suc k) ns (CLOSE ∷ xs) ≡ pending d k ns xs
pending_close d k [] xs = pending-nil d (suc k) (CLOSE ∷ xs) ∙ sym (pending-nil d k xs)
pending_close d k (n ∷ ns) xs =
    let a = pending-cons d (suc k) n ns (CLOSE ∷ xs) in
    let b = pending-cons d k n ns xs in
    let c = ap (λ (m : ℕ). unit d (suc (n + m))) (own_length_close_above k xs) in
    let h = pending_close d (suc k) ns xs in
    omega (arith, a, b, c, h)

-- what is still to be counted of a degree
pub to_come : ℕ → List ℕ → List ℕ → ℕ
to_come d ns xs = pending d 0 ns xs + inner (of_degree d) xs

to_come_is : (d : ℕ) (ns xs : List ℕ) → to_come d ns xs ≡ pending d 0 ns xs + inner (of_degree d) xs
unfolding to_come
to_come_is d ns xs = refl

come_other : (d n x : ℕ) (ns xs : List ℕ) → IsOther x → to_come d (n ∷ ns) (x ∷ xs) ≡ to_come d (suc n ∷ ns) xs
come_other d n x ns xs o =
    let a = to_come_is d (n ∷ ns) (x ∷ xs) in
    let b = to_come_is d (suc n ∷ ns) xs in
    let c = pending-cons d 0 n ns (x ∷ xs) in
    let e = pending-cons d 0 (suc n) ns xs in
    let l : suc (n + own_length 0 (x ∷ xs)) ≡ suc (suc n + own_length 0 xs) = (let w = own_length_other_here x xs o in omega (arith, w)) in
    let f = ap (unit d) l in
    let g = pending_other d 0 x ns xs o in
    let h = inner_other (of_degree d) x xs o.not_open in
    omega (arith, a, b, c, e, f, g, h)

come_open : (d n : ℕ) (ns xs : List ℕ) → to_come d (n ∷ ns) (OPEN ∷ xs) ≡ to_come d (0 ∷ suc n ∷ ns) xs
come_open d n ns xs =
    let a = to_come_is d (n ∷ ns) (OPEN ∷ xs) in
    let b = to_come_is d (0 ∷ suc n ∷ ns) xs in
    let c = pending-cons d 0 n ns (OPEN ∷ xs) in
    let e = pending-cons d 0 0 (suc n ∷ ns) xs in
    let f = pending-cons d 1 (suc n) ns xs in
    let l : suc (n + own_length 0 (OPEN ∷ xs)) ≡ suc (suc n + own_length 1 xs) = (let w = own_length_open_here xs in omega (arith, w)) in
    let g = ap (unit d) l in
    let h = pending_open d 0 ns xs in
    let i = inner_open (of_degree d) OPEN xs refl in
    let m : suc (0 + own_length 0 xs) ≡ suc (own_length 0 xs) = omega arith in
    let j = ap (unit d) m in
    let k = unit_value d xs in
    omega (arith, a, b, c, e, f, g, h, i, j, k)

come_close : (d n : ℕ) (ns xs : List ℕ) → to_come d (n ∷ ns) (CLOSE ∷ xs) ≡ unit d (suc n) + to_come d ns xs
come_close d n ns xs =
    let a = to_come_is d (n ∷ ns) (CLOSE ∷ xs) in
    let b = to_come_is d ns xs in
    let c = pending-cons d 0 n ns (CLOSE ∷ xs) in
    let l : suc (n + own_length 0 (CLOSE ∷ xs)) ≡ suc n = (let w = own_length_close_here xs in omega (arith, w)) in
    let g = ap (unit d) l in
    let h = pending_close d 0 ns xs in
    let i = inner_other (of_degree d) CLOSE xs (λ e. omega arith) in
    omega (arith, a, b, c, g, h, i)

come_end : (d n : ℕ) → to_come d (n ∷ []) [] ≡ unit d (suc n)
come_end d n =
    let a = to_come_is d (n ∷ []) [] in
    let c = pending-cons d 0 n [] [] in
    let l : suc (n + own_length 0 []) ≡ suc n = (let w = own_length-nil 0 in omega (arith, w)) in
    let g = ap (unit d) l in
    let h = pending-nil d 1 [] in
    let i = inner-nil (of_degree d) in
    omega (arith, a, c, g, h, i)

pub come_start : (word : List ℕ) (d : ℕ) → to_come d (0 ∷ []) word ≡ nodes_of word d
come_start word d =
    let a = to_come_is d (0 ∷ []) word in
    let b = pending-cons d 0 0 [] word in
    let c = pending-nil d 1 word in
    let m : suc (0 + own_length 0 word) ≡ suc (own_length 0 word) = omega arith in
    let e = ap (unit d) m in
    let f = unit_value d word in
    let g = nodes_weight word d in
    let h = contour_weight (of_degree d) word in
    omega (arith, a, b, c, e, f, g, h)

-- the first open node counts
pub come_some : (d n : ℕ) (ns xs : List ℕ) → d ≡ suc (n + own_length 0 xs) → 0 < to_come d (n ∷ ns) xs
come_some d n ns xs e =
    let a = to_come_is d (n ∷ ns) xs in
    let b = pending-cons d 0 n ns xs in
    let c = unit_yes d (suc (n + own_length 0 xs)) (sym e) in
    omega (arith, a, b, c)

-- nodes of a degree
pub has_some : (places : List ℕ) (d n : ℕ) → 0 < nodes_before places d n → (node : ℕ) × (has_degree places d node ≡ true)
has_some places d zero l = absurd (omega arith)
has_some places d (suc n) l =
    elim (cases_Bool (has_degree places d n)) [
      | inl has ↦ (n, has)
      | inr lacks ↦ has_some places d n (let e : cond {A = ℕ} (has_degree places d n) 1 0 ≡ 0 = ap (λ (b : Bool). cond {A = ℕ} b 1 0) lacks in omega (arith, e))
    ]

pub node_from : (places : List ℕ) (d node : ℕ) → has_degree places d node ≡ true → IsNode places node × (degree places node ≡ d)
node_from places d node h =
    let both = and_parts ((node == 0) || (slice_index places node == OPEN)) (degree places node == d) h in (
      elim (or_cases (node == 0) (slice_index places node == OPEN) both.0) [ inl a ↦ inl (eqb-true node 0 a) | inr a ↦ inr (eqb-true (slice_index places node) OPEN a) ],
      eqb-true (degree places node) d both.1,
    )

pub degree_within : (word : List ℕ) (d : ℕ) → IsBlossoming word → 0 < nodes_of word d → IsDegree d
degree_within word d t l =
    let n = has_some (contour word) d (length (contour word)) l in
    let h = node_from (contour word) d n.0 n.1 in
    subst IsDegree h.1 (t.degrees n.0 h.0)

nodes-le : (places : List ℕ) (d n : ℕ) → nodes_before places d n ≤ n
nodes-le places d zero = omega arith
nodes-le places d (suc n) =
    let h = nodes-le places d n in
    elim (cases_Bool (has_degree places d n)) [
      | inl has ↦ (let e : cond {A = ℕ} (has_degree places d n) 1 0 ≡ 1 = ap (λ (b : Bool). cond {A = ℕ} b 1 0) has in omega (arith, e, h))
      | inr lacks ↦ (let e : cond {A = ℕ} (has_degree places d n) 1 0 ≡ 0 = ap (λ (b : Bool). cond {A = ℕ} b 1 0) lacks in omega (arith, e, h))
    ]

-- the table after the first i letters, with the entries of the open nodes, the nearest last
pub record IsTallied (word counts parents : List ℕ) (entries i : ℕ) : Type 0 where
  pub as_long : length counts ≡ suc MAX_DEGREE
  pub level : seen CLOSE word i + length parents ≡ seen OPEN word i
  pub each : (d : ℕ) → slice_index counts d + to_come d (entries ∷ reverse parents) (drop i word) ≡ nodes_of word d

pub tallied_start : (word counts parents : List ℕ) → counts ≡ replicate (MAX_DEGREE + 1) 0 → parents ≡ [] → IsTallied word counts parents 0 0
tallied_start word counts parents e f =
    let P : List ℕ → Type 0 = λ xs. IsTallied word counts xs 0 0 in
    let Q : List ℕ → Type 0 = λ xs. IsTallied word xs [] 0 0 in
    subst P (sym f) (subst Q (sym e) (record {
      as_long = let a = length-replicate {A = ℕ} (MAX_DEGREE + 1) 0 in omega (arith, a);
      level = let a = seen_none OPEN word in let b = seen_none CLOSE word in omega (arith, a, b);
      each = λ d. let a = come_start word d in let b = no_count d in omega (arith, a, b);
    })) where
      no_count : (d : ℕ) → slice_index (replicate (MAX_DEGREE + 1) 0) d ≡ 0
      no_count d = elim (cases_lt d (MAX_DEGREE + 1)) [
        | inl l ↦ get_or-replicate (MAX_DEGREE + 1) d 0 0 l
        | inr g ↦ get_or_past (replicate (MAX_DEGREE + 1) 0) d 0 (let a = length-replicate {A = ℕ} (MAX_DEGREE + 1) 0 in omega (arith, a))
      ]

pub tallied_at : (word counts counts' parents parents' : List ℕ) (entries entries' i : ℕ) → counts' ≡ counts → parents' ≡ parents → entries' ≡ entries → IsTallied word counts parents entries i → IsTallied word counts' parents' entries' i
tallied_at word counts counts' parents parents' entries entries' i e f g t =
    let P : List ℕ → Type 0 = λ xs. IsTallied word xs parents entries i in
    let Q : List ℕ → Type 0 = λ xs. IsTallied word counts' xs entries i in
    let R : ℕ → Type 0 = λ n. IsTallied word counts' parents' n i in
    subst R (sym g) (subst Q (sym f) (subst P (sym e) t))

-- the node that is read, and its place in the table
pub record HasRoom (word counts : List ℕ) (entries : ℕ) : Type 0 where
  pub within : suc entries < length counts
  pub fits : slice_index counts (suc entries) ≤ length word

next : (word : List ℕ) (i x : ℕ) → slice_index word i ≡ x → i < length word → drop i word ≡ x ∷ drop (suc i) word
next word i x e h = drop-cons word i 0 h ∙ ap (λ (y : ℕ). y ∷ drop (suc i) word) e

at_next : (word counts parents : List ℕ) (entries i x d : ℕ) → slice_index word i ≡ x → i < length word → IsTallied word counts parents entries i → slice_index counts d + to_come d (entries ∷ reverse parents) (x ∷ drop (suc i) word) ≡ nodes_of word d
at_next word counts parents entries i x d e l t =
    let a = ap (to_come d (entries ∷ reverse parents)) (next word i x e l) in
    let h = t.each d in
    omega (arith, a, h)

room_from : (word counts : List ℕ) (entries : ℕ) → IsBlossoming word → length counts ≡ suc MAX_DEGREE → slice_index counts (suc entries) + 1 ≤ nodes_of word (suc entries) → HasRoom word counts entries
room_from word counts entries b e l =
    let n = degree_within word (suc entries) b (omega arith) in
    let m = nodes-le (contour word) (suc entries) (length (contour word)) in
    record { within = let f = n.few in omega (arith, e, f); fits = omega (arith, l, m) }

pub room_close : (word counts parents : List ℕ) (entries i : ℕ) → IsBlossoming word → slice_index word i ≡ CLOSE → IsTallied word counts parents entries i → HasRoom word counts entries
room_close word counts parents entries i b c t =
    let l = inside word i CLOSE (omega arith) c in
    let h = at_next word counts parents entries i CLOSE (suc entries) c l t in
    let f = come_close (suc entries) entries (reverse parents) (drop (suc i) word) in
    let g = unit_yes (suc entries) (suc entries) refl in
    room_from word counts entries b t.as_long (omega (arith, h, f, g))

-- an entry more than a node has so far is within its degree
pub entries_fit : (word counts parents : List ℕ) (entries i : ℕ) → IsBlossoming word → IsTallied word counts parents entries i → entries < MAX_DEGREE
entries_fit word counts parents entries i b t =
    let d : ℕ = suc (entries + own_length 0 (drop i word)) in
    let h = t.each (suc (entries + own_length 0 (drop i word))) in
    let f = come_some (suc (entries + own_length 0 (drop i word))) entries (reverse parents) (drop i word) refl in
    let n = degree_within word (suc (entries + own_length 0 (drop i word))) b (omega (arith, h, f)) in
    let g = n.few in
    omega (arith, g)

pub tallied_other : (word counts parents : List ℕ) (entries more i j : ℕ) → i < length word → IsOther (slice_index word i) → more ≡ suc entries → j ≡ suc i → IsTallied word counts parents entries i → IsTallied word counts parents more j
tallied_other word counts parents entries more i j l o e f t =
    let P : ℕ → Type 0 = λ n. IsTallied word counts parents n j in
    let Q : ℕ → Type 0 = λ n. IsTallied word counts parents (suc entries) n in
    let a = seen_no OPEN word i o.not_open in
    let b = seen_no CLOSE word i o.not_close in
    let g = t.level in
    subst P (sym e) (subst Q (sym f) (record {
      as_long = t.as_long;
      level = omega (arith, a, b, g);
      each = λ d.
          let h = at_next word counts parents entries i (slice_index word i) d refl l t in
          let c = come_other d entries (slice_index word i) (reverse parents) (drop (suc i) word) o in
          omega (arith, h, c);
    }))

pub tallied_open : (word counts parents above : List ℕ) (entries more i j : ℕ) → slice_index word i ≡ OPEN → more ≡ suc entries → above ≡ parents ++ more ∷ [] → j ≡ suc i → IsTallied word counts parents entries i → IsTallied word counts above 0 j
tallied_open word counts parents above entries more i j o e g f t =
    let l = inside word i OPEN (omega arith) o in
    let Q : ℕ → Type 0 = λ n. IsTallied word counts above 0 n in
    let a = seen_yes OPEN word i (omega arith) o in
    let b = seen_no CLOSE word i (λ w. omega arith) in
    let k = t.level in
    let m = ap length g ∙ length_push parents more in
    let r : reverse above ≡ suc entries ∷ reverse parents = ap reverse g ∙ reverse_push parents more ∙ ap (λ (n : ℕ). n ∷ reverse parents) e in
    subst Q (sym f) (record {
      as_long = t.as_long;
      level = omega (arith, a, b, k, m);
      each = λ d.
          let h = at_next word counts parents entries i OPEN d o l t in
          let c = come_open d entries (reverse parents) (drop (suc i) word) in
          let w = ap (λ (ns : List ℕ). to_come d (0 ∷ ns) (drop (suc i) word)) r in
          omega (arith, h, c, w);
    })

-- one node more in the table
one_more : (counts : List ℕ) (n d : ℕ) → n < length counts → slice_index (set counts n (slice_index counts n + 1)) d ≡ slice_index counts d + unit d n
one_more counts n d l =
    elim (cases_eq n d) [
      | inl e ↦
          let a = get_or-set_same counts n (slice_index counts n + 1) 0 l in
          let b = ap (slice_index (set counts n (slice_index counts n + 1))) e in
          let c = ap (slice_index counts) e in
          let f = unit_yes d n e in
          omega (arith, a, b, c, f)
      | inr m ↦
          let a = get_or-set_other counts n d (slice_index counts n + 1) 0 (λ e. m (sym e)) in
          let f = unit_no d n m in
          omega (arith, a, f)
    ]

-- the count that is read
pub row_read : (word counts : List ℕ) (entries place at n : ℕ) → HasRoom word counts entries → place ≡ suc entries → at ≡ get_or counts place at → at ≡ slice_index counts (suc entries)
row_read word counts entries place at n room e h =
    let l = room.within in
    get_or_read counts place at (omega arith) h 0 ∙ ap (slice_index counts) e

written : (word counts new : List ℕ) (entries place at : ℕ) → HasRoom word counts entries → place ≡ suc entries → at ≡ get_or counts place at → new ≡ set counts place (at + 1) → new ≡ set counts (suc entries) (slice_index counts (suc entries) + 1)
written word counts new entries place at room e h w =
    w ∙ ap₂ (λ (k x : ℕ). set counts k (x + 1)) e (row_read word counts entries place at 0 room e h)

tallied_close : (word counts new parents above : List ℕ) (r : Option ℕ) (entries parent i j : ℕ) → IsBlossoming word → slice_index word i ≡ CLOSE → new ≡ set counts (suc entries) (slice_index counts (suc entries) + 1)
    → parents ≡ above ++ option_to_list r → r ≡ Some parent → j ≡ suc i → IsTallied word counts parents entries i → IsTallied word new above parent j
tallied_close word counts new parents above r entries parent i j bl c e g s f t =
    let l = inside word i CLOSE (omega arith) c in
    let room = room_close word counts parents entries i bl c t in
    let Q : ℕ → Type 0 = λ n. IsTallied word new above parent n in
    let a = seen_yes CLOSE word i (omega arith) c in
    let b = seen_no OPEN word i (λ w. omega arith) in
    let k = t.level in
    let m = ap length (g ∙ ap (λ (o : Option ℕ). above ++ option_to_list o) s) ∙ length_push above parent in
    let v = reverse_pop parents above r parent g s in
    let n = ap length e ∙ length-set counts (suc entries) (slice_index counts (suc entries) + 1) in
    subst Q (sym f) (record {
      as_long = n ∙ t.as_long;
      level = omega (arith, a, b, k, m);
      each = λ d.
          let h = at_next word counts parents entries i CLOSE d c l t in
          let x = come_close d entries (reverse parents) (drop (suc i) word) in
          let w = ap (λ (ns : List ℕ). to_come d ns (drop (suc i) word)) v in
          let y = ap (λ (xs : List ℕ). slice_index xs d) e ∙ one_more counts (suc entries) d room.within in
          omega (arith, h, x, w, y);
    })

pub tallied_write : (word counts new parents above : List ℕ) (r : Option ℕ) (entries place at parent i j : ℕ) → IsBlossoming word → slice_index word i ≡ CLOSE → place ≡ suc entries → at ≡ get_or counts place at → new ≡ set counts place (at + 1)
    → parents ≡ above ++ option_to_list r → r ≡ Some parent → j ≡ suc i → IsTallied word counts parents entries i → IsTallied word new above parent j
tallied_write word counts new parents above r entries place at parent i j bl c e h w g s f t =
    tallied_close word counts new parents above r entries parent i j bl c (written word counts new entries place at (room_close word counts parents entries i bl c t) e h w) g s f t

-- a `)` has a parent to go back to
pub has_parent : (word counts parents : List ℕ) (entries i : ℕ) → IsMatched word → slice_index word i ≡ CLOSE → IsTallied word counts parents entries i → 0 < length parents
has_parent word counts parents entries i m c t = some_open word i (length parents) m c t.level

-- at the end the root node is left
at_end : (word counts parents : List ℕ) (entries i d : ℕ) → IsBlossoming word → i ≡ length word → IsTallied word counts parents entries i → slice_index counts d + unit d (suc entries) ≡ nodes_of word d
at_end word counts parents entries i d b e t =
    let P : ℕ → Type 0 = λ n. IsTallied word counts parents entries n in
    let last : IsTallied word counts parents entries (length word) = subst P e t in
    let none = nil_from_length parents (none_open word (length parents) b.in_order.matched last.level) in
    let f = last.each d in
    let g = ap (λ (ns : List ℕ). to_come d (entries ∷ reverse ns) (drop (length word) word)) none in
    let h = ap (to_come d (entries ∷ [])) (drop_all (length word) word (omega arith)) in
    let i = come_end d entries in
    omega (arith, f, g, h, i)

pub room_end : (word counts parents : List ℕ) (entries i : ℕ) → IsBlossoming word → i ≡ length word → IsTallied word counts parents entries i → HasRoom word counts entries
room_end word counts parents entries i b e t =
    let h = at_end word counts parents entries i (suc entries) b e t in
    let g = unit_yes (suc entries) (suc entries) refl in
    room_from word counts entries b t.as_long (omega (arith, h, g))

tallied_end : (word counts new parents : List ℕ) (entries i : ℕ) → IsBlossoming word → i ≡ length word → new ≡ set counts (suc entries) (slice_index counts (suc entries) + 1) → IsTallied word counts parents entries i → AreCounts word new
tallied_end word counts new parents entries i b e f t =
    let room = room_end word counts parents entries i b e t in
    record {
      as_long = ap length f ∙ length-set counts (suc entries) (slice_index counts (suc entries) + 1) ∙ t.as_long;
      each = λ d.
          let h = at_end word counts parents entries i d b e t in
          let y = ap (λ (xs : List ℕ). slice_index xs d) f ∙ one_more counts (suc entries) d room.within in
          omega (arith, h, y);
    }

pub tallied_last : (word counts new parents : List ℕ) (entries place at i : ℕ) → IsBlossoming word → i ≡ length word → place ≡ suc entries → at ≡ get_or counts place at → new ≡ set counts place (at + 1) → IsTallied word counts parents entries i → AreCounts word new
tallied_last word counts new parents entries place at i b e f h w t =
    tallied_end word counts new parents entries i b e (written word counts new entries place at (room_end word counts parents entries i b e t) f h w) t
