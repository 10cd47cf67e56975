-- The rotation of the lines: lines turned by one, the dart after each dart, and what is told of all darts.
use Rattle.std.proofs.Common.{◌≡◌, ℕ, zero, suc, eqb, ◌+◌, ◌-◌, ◌<◌, ◌≤◌, inl, inr, List, [], ◌∷◌, ◌++◌, Option, Some, None, length, take, drop, get_or, set, replicate, map, refl, sym, ap, ◌∙◌, subst, arith, append_assoc, length-append, length-drop, length-set, length-take-le, get_or-append-add, drop-drop}
use borrow.Author.Count.{below_more}
use Rattle.std.specs.Prelude.{MatchOption, sum}
use Rattle.std.proofs.lemmas.Bool.{cases_eq, cond-true, cond-false, eq-eqb, ne_eqb}
use Rattle.std.proofs.lemmas.Bool.Decides.{nat_tests}
use Rattle.std.proofs.lemmas.List.{drop_more, get_or-set_same, get_or-set_other, get_or-replicate, get_or_append_left, get_or_push, get_or-take, get_or-drop, get_or-map, length-map, length-replicate, map-set}
use Rattle.std.proofs.lemmas.List.Elements.{All-head, All-tail}
use Rattle.std.proofs.lemmas.List.Sums.{sum_by-append}
use Rattle.std.proofs.Math.Seq.{take-append_seam}
use Rattle.pm_perm.proofs.Contained.{contains_at, is_at}
use Rattle.pm_map.specs.Missing.{IsLeastMissing}
use Rattle.pm_map.proofs.MarksLemmas.{MatchOption-weaker}
use Rattle.pm_mapfile.specs.steps.Rotation.{turned, turned_lines, AreSizes, IsFollowed, AreFollowers, AreAllTold, IsFirstUntold, CarriesOn, told_dart}

-- a line turned by one has as many darts
pub length-turned : (darts : List ℕ) → length (turned darts) ≡ length darts
length-turned [] = refl
length-turned (dart ∷ darts) = omega (arith, length-append darts (dart ∷ []))

pub sum-cons : (n : ℕ) (ns : List ℕ) → sum (n ∷ ns) ≡ n + sum ns
sum-cons n ns = let e : sum (n ∷ ns) ≡ sum (n ∷ []) + sum ns = sum_by-append (λ k. k) (n ∷ []) ns in omega (arith, e)

-- the sizes without the first
pub sizes_left : (size : ℕ) (sizes darts : List ℕ) → AreSizes (size ∷ sizes) (length darts) → AreSizes sizes (length (drop size darts))
sizes_left size sizes darts are = record {
  some = All-tail (λ n. 0 < n) size sizes are.some;
  total = omega (arith, are.total, sum-cons size sizes, length-drop size darts);
}

-- the lines that are turned, and those that are left
pub record IsTurning (sizes darts after : List ℕ) (count start : ℕ) : Type 0 where
  pub left : AreSizes (drop count sizes) (length (drop start darts))
  pub within : start ≤ length darts
  pub are_turned : turned_lines sizes darts ≡ after ++ turned_lines (drop count sizes) (drop start darts)

pub turning_begins : (sizes darts : List ℕ) → AreSizes sizes (length darts) → IsTurning sizes darts [] 0 0
turning_begins sizes darts are = record { left = are; within = omega arith; are_turned = refl }

-- the size of the next line
pub next_size : (sizes darts after : List ℕ) (count start : ℕ) → IsTurning sizes darts after count start → count < length sizes
    → AreSizes (get_or sizes count 0 ∷ drop (count + 1) sizes) (length (drop start darts))
next_size sizes darts after count start t h = subst (λ l. AreSizes l (length (drop start darts))) (drop_more sizes count 0 h) t.left

pub next_fits : (sizes darts after : List ℕ) (count start : ℕ) → IsTurning sizes darts after count start → count < length sizes
    → (0 < get_or sizes count 0) × (start + get_or sizes count 0 ≤ length darts)
next_fits sizes darts after count start t h =
    let are = next_size sizes darts after count start t h in
    let size = get_or sizes count 0 in
    (All-head (λ n. 0 < n) size (drop (count + 1) sizes) are.some, omega (arith, are.total, sum-cons size (drop (count + 1) sizes), length-drop start darts, t.within))

-- a line from its first dart on
turned_take : (n x : ℕ) (xs : List ℕ) → turned (take (suc n) (x ∷ xs)) ≡ take n xs ++ x ∷ []
turned_take n x xs = refl

turned_slice : (size start : ℕ) (darts : List ℕ) → 0 < size → start + size ≤ length darts
    → turned (take size (drop start darts)) ≡ take (start + size - (start + 1)) (drop (start + 1) darts) ++ get_or darts start 0 ∷ []
turned_slice size start darts some fits =
    let n = size - 1 in
    let one : size ≡ suc n = omega arith in
    let count : n ≡ start + size - (start + 1) = omega arith in
    ap (λ s. turned (take s (drop start darts))) one ∙ ap (λ l. turned (take (suc n) l)) (drop_more darts start 0 (omega arith))
    ∙ turned_take n (get_or darts start 0) (drop (start + 1) darts) ∙ ap (λ k. take k (drop (start + 1) darts) ++ get_or darts start 0 ∷ []) count

pub turning_more : (sizes darts after more : List ℕ) (count start : ℕ) → IsTurning sizes darts after count start → count < length sizes
    → more ≡ (after ++ take (start + get_or sizes count 0 - (start + 1)) (drop (start + 1) darts)) ++ get_or darts start 0 ∷ []
    → IsTurning sizes darts more (count + 1) (start + get_or sizes count 0)
turning_more sizes darts after more count start t h added =
    let size = get_or sizes count 0 in
    let rest = drop (count + 1) sizes in
    let fits = next_fits sizes darts after count start t h in
    let are = next_size sizes darts after count start t h in
    let past : drop size (drop start darts) ≡ drop (start + size) darts = drop-drop size start darts in
    record {
      left = subst (λ l. AreSizes rest (length l)) past (sizes_left size rest (drop start darts) are);
      within = fits.1;
      are_turned = t.are_turned ∙ ap (λ l. after ++ turned_lines l (drop start darts)) (drop_more sizes count 0 h)
          ∙ ap (λ l. after ++ (l ++ turned_lines rest (drop size (drop start darts)))) (turned_slice size start darts fits.0 fits.1)
          ∙ ap (λ l. after ++ ((take (start + size - (start + 1)) (drop (start + 1) darts) ++ get_or darts start 0 ∷ []) ++ turned_lines rest l)) past
          ∙ sym (append_assoc after (take (start + size - (start + 1)) (drop (start + 1) darts) ++ get_or darts start 0 ∷ []) (turned_lines rest (drop (start + size) darts)))
          ∙ ap (λ l. l ++ turned_lines rest (drop (start + size) darts)) (sym (append_assoc after (take (start + size - (start + 1)) (drop (start + 1) darts)) (get_or darts start 0 ∷ [])) ∙ sym added);
    }

-- no dart is followed yet
pub followers_none : (darts after : List ℕ) → AreFollowers darts after 0 (replicate (length darts) None)
followers_none darts after = record {
  size = length-replicate (length darts) None;
  each = λ dart h. subst (λ o. MatchOption o ((place : ℕ) → place < 0 → get_or darts place 0 ≡ dart → ⊥) (IsFollowed darts after 0 dart))
      (sym (get_or-replicate (length darts) dart None None h)) (λ place less here. omega arith);
}

-- one dart more
pub followers_more : (darts after : List ℕ) (count : ℕ) (followers : List (Option ℕ)) → AreFollowers darts after count followers → count < length darts
    → get_or darts count 0 < length darts → AreFollowers darts after (count + 1) (set followers (get_or darts count 0) (Some (get_or after count 0)))
followers_more darts after count followers are h below =
    let here = get_or darts count 0 in
    let next : Option ℕ = Some (get_or after count 0) in
    let inside : here < length followers = omega (arith, are.size) in
    record {
      size = length-set followers here next ∙ are.size;
      each = λ dart within. elim (cases_eq dart here) [
        | inl same ↦ subst (λ o. MatchOption o ((place : ℕ) → place < count + 1 → get_or darts place 0 ≡ dart → ⊥) (IsFollowed darts after (count + 1) dart))
            (sym (ap (λ n. get_or (set followers here next) n None) same ∙ get_or-set_same followers here next None inside))
            (record { place = count; within = omega arith; here = sym same; is_next = refl })
        | inr other ↦ subst (λ o. MatchOption o ((place : ℕ) → place < count + 1 → get_or darts place 0 ≡ dart → ⊥) (IsFollowed darts after (count + 1) dart))
            (sym (get_or-set_other followers here dart next None other))
            (MatchOption-weaker (get_or followers dart None) (are.each dart within)
            (λ none place less stands. elim (cases_eq place count) [
              | inl last ↦ other (sym stands ∙ ap (λ n. get_or darts n 0) last)
              | inr before ↦ none place (omega (arith, before)) stands
            ])
            (λ value f. record { place = f.place; within = omega (arith, f.within); here = f.here; is_next = f.is_next }))
      ];
    }

-- the lines of which the followers are written, and those that are left
pub record AreWritingLines (sizes darts : List ℕ) (followers : List (Option ℕ)) (count start : ℕ) : Type 0 where
  pub before : List ℕ
  pub long : length before ≡ start
  pub turning : IsTurning sizes darts before count start
  pub written : AreFollowers darts (turned_lines sizes darts) start followers

pub writing_begins : (sizes darts : List ℕ) (followers : List (Option ℕ)) → AreSizes sizes (length darts) → AreFollowers darts (turned_lines sizes darts) 0 followers
    → AreWritingLines sizes darts followers 0 0
writing_begins sizes darts followers are none = record { before = []; long = refl; turning = turning_begins sizes darts are; written = none }

-- as many darts as the line has
line_length : (size start : ℕ) (darts : List ℕ) → 0 < size → start + size ≤ length darts → length (take (start + size - (start + 1)) (drop (start + 1) darts) ++ get_or darts start 0 ∷ []) ≡ size
line_length size start darts some fits =
    omega (
      arith,
      length-append (take (start + size - (start + 1)) (drop (start + 1) darts)) (get_or darts start 0 ∷ []),
      length-take-le (start + size - (start + 1)) (drop (start + 1) darts) (omega (arith, length-drop (start + 1) darts, some, fits)),
    )

-- what follows the places of the next line
line_at : (sizes darts before : List ℕ) (count start i : ℕ) → IsTurning sizes darts before count start → length before ≡ start → count < length sizes → i < get_or sizes count 0
    → get_or (turned_lines sizes darts) (start + i) 0 ≡ get_or (take (start + get_or sizes count 0 - (start + 1)) (drop (start + 1) darts) ++ get_or darts start 0 ∷ []) i 0
line_at sizes darts before count start i t long h less =
    let size = get_or sizes count 0 in
    let rest = drop (count + 1) sizes in
    let line = take (start + size - (start + 1)) (drop (start + 1) darts) ++ get_or darts start 0 ∷ [] in
    let fits = next_fits sizes darts before count start t h in
    let is : turned_lines sizes darts ≡ before ++ (line ++ turned_lines rest (drop size (drop start darts))) =
    t.are_turned ∙ ap (λ l. before ++ turned_lines l (drop start darts)) (drop_more sizes count 0 h)
    ∙ ap (λ l. before ++ (l ++ turned_lines rest (drop size (drop start darts)))) (turned_slice size start darts fits.0 fits.1) in
    let size_of_line : length line ≡ size = line_length size start darts fits.0 fits.1 in
    ap (λ l. get_or l (start + i) 0) is ∙ ap (λ n. get_or (before ++ (line ++ turned_lines rest (drop size (drop start darts)))) (n + i) 0) (sym long)
    ∙ get_or-append-add before (line ++ turned_lines rest (drop size (drop start darts))) i 0
    ∙ get_or_append_left line (turned_lines rest (drop size (drop start darts))) 0 i (omega (arith, less, size_of_line))

-- a dart that isn't the last of its line is followed by the next
pub followed_by_next : (sizes darts before : List ℕ) (count start place : ℕ) → IsTurning sizes darts before count start → length before ≡ start → count < length sizes
    → start ≤ place → place + 1 < start + get_or sizes count 0 → get_or (turned_lines sizes darts) place 0 ≡ get_or darts (place + 1) 0
followed_by_next sizes darts before count start place t long h from less =
    let size = get_or sizes count 0 in
    let fits = next_fits sizes darts before count start t h in
    let n = start + size - (start + 1) in
    let prefix = take n (drop (start + 1) darts) in
    let here : start + (place - start) ≡ place = omega (arith, from) in
    let there : start + 1 + (place - start) ≡ place + 1 = omega (arith, from) in
    let inside : place - start < n = omega (arith, from, less) in
    let long_prefix : length prefix ≡ n = length-take-le n (drop (start + 1) darts) (omega (arith, length-drop (start + 1) darts, fits.0, fits.1)) in
    ap (λ p. get_or (turned_lines sizes darts) p 0) (sym here) ∙ line_at sizes darts before count start (place - start) t long h (omega (arith, from, less))
    ∙ get_or_append_left prefix (get_or darts start 0 ∷ []) 0 (place - start) (omega (arith, inside, long_prefix))
    ∙ get_or-take n (drop (start + 1) darts) (place - start) 0 inside ∙ get_or-drop (start + 1) darts (place - start) 0 ∙ ap (λ p. get_or darts p 0) there

-- the last dart of a line is followed by the first
pub followed_by_first : (sizes darts before : List ℕ) (count start : ℕ) → IsTurning sizes darts before count start → length before ≡ start → count < length sizes
    → get_or (turned_lines sizes darts) (start + get_or sizes count 0 - 1) 0 ≡ get_or darts start 0
followed_by_first sizes darts before count start t long h =
    let size = get_or sizes count 0 in
    let fits = next_fits sizes darts before count start t h in
    let n = start + size - (start + 1) in
    let here : start + (size - 1) ≡ start + size - 1 = omega (arith, fits.0) in
    let prefix = take n (drop (start + 1) darts) in
    let long_prefix : length prefix ≡ size - 1 = length-take-le n (drop (start + 1) darts) (omega (arith, length-drop (start + 1) darts, fits.0, fits.1)) ∙ omega (arith, fits.0) in
    ap (λ p. get_or (turned_lines sizes darts) p 0) (sym here) ∙ line_at sizes darts before count start (size - 1) t long h (omega (arith, fits.0))
    ∙ get_or_push prefix (get_or darts start 0) 0 (size - 1) long_prefix

-- the followers of one line more are written
pub writing_more : (sizes darts : List ℕ) (followers more : List (Option ℕ)) (count start : ℕ) → (w : AreWritingLines sizes darts followers count start) → count < length sizes
    → AreFollowers darts (turned_lines sizes darts) (start + get_or sizes count 0) more → AreWritingLines sizes darts more (count + 1) (start + get_or sizes count 0)
writing_more sizes darts followers more count start w h written =
    let size = get_or sizes count 0 in
    let fits = next_fits sizes darts w.before count start w.turning h in
    let line = take (start + size - (start + 1)) (drop (start + 1) darts) in
    let after = (w.before ++ line) ++ get_or darts start 0 ∷ [] in
    record {
      before = after;
      long = ap length (append_assoc w.before line (get_or darts start 0 ∷ [])) ∙ length-append w.before (line ++ get_or darts start 0 ∷ [])
          ∙ omega (arith, w.long, line_length size start darts fits.0 fits.1);
      turning = turning_more sizes darts w.before after count start w.turning h refl;
      written = written;
    }

pub writing_ends : (sizes darts : List ℕ) (followers : List (Option ℕ)) (count start : ℕ) → AreWritingLines sizes darts followers count start → drop count sizes ≡ []
    → AreFollowers darts (turned_lines sizes darts) (length darts) followers
writing_ends sizes darts followers count start w none =
    let left : AreSizes [] (length (drop start darts)) = subst (λ l. AreSizes l (length (drop start darts))) none w.turning.left in
    let total : 0 ≡ length (drop start darts) = left.total in
    let all : start ≡ length darts = omega (arith, total, length-drop start darts, w.turning.within) in
    subst (λ n. AreFollowers darts (turned_lines sizes darts) n followers) all w.written

-- what is told of the first darts is written
pub record IsTelling (followers : List (Option ℕ)) (values : List ℕ) (count : ℕ) : Type 0 where
  pub size : length values ≡ length followers
  pub told : (place : ℕ) → place < count → get_or followers place None ≡ Some (get_or values place 0)

-- a dart is told
pub told_some : (value : ℕ) → value < 4294967295 → told_dart value ≡ Some value
told_some value less = grind (arith, nat_tests)

told_other : (value : ℕ) → (value ≡ 4294967295 → ⊥) → told_dart value ≡ Some value
told_other value other = cond-false (eqb value 4294967295) _ _ (ne_eqb value 4294967295 other)

pub told_none : (value : ℕ) → value ≡ 4294967295 → told_dart value ≡ None
told_none value is = cond-true (eqb value 4294967295) _ _ (eq-eqb value 4294967295 is)

-- what is told of a dart, from what is written
told_at : (values : List ℕ) (place : ℕ) → place < length values → get_or (map told_dart values) place None ≡ told_dart (get_or values place 0)
told_at values place less = get_or-map told_dart values place 0 None less

pub telling_begins : (values : List ℕ) → IsTelling (map told_dart values) values 0
telling_begins values = record { size = sym (length-map values told_dart); told = λ place less. absurd (omega arith) }

pub telling_more : (values : List ℕ) (count : ℕ) → IsTelling (map told_dart values) values count → count < length values
    → (get_or values count 0 ≡ 4294967295 → ⊥) → IsTelling (map told_dart values) values (count + 1)
telling_more values count t h other = record {
  size = t.size;
  told = below_more _ _ t.told (told_at values count h ∙ told_other (get_or values count 0) other);
}

pub telling_ends : (followers : List (Option ℕ)) (values : List ℕ) → IsTelling followers values (length followers) → AreAllTold followers values
telling_ends followers values t = record { size = t.size; each = t.told }

pub first_untold : (values : List ℕ) (count : ℕ) → IsTelling (map told_dart values) values count → count < length values
    → get_or values count 0 ≡ 4294967295 → IsFirstUntold (map told_dart values) count
first_untold values count t h is = record {
  within = omega (arith, h, length-map values told_dart);
  untold = told_at values count h ∙ told_none (get_or values count 0) is;
  before = λ earlier less. (get_or values earlier 0, t.told earlier less);
}

-- a dart that is followed
followed : (darts after : List ℕ) (count dart value : ℕ) (o : Option ℕ) → MatchOption o ((place : ℕ) → place < count → get_or darts place 0 ≡ dart → ⊥) (IsFollowed darts after count dart)
    → o ≡ Some value → IsFollowed darts after count dart value
followed darts after count dart value o m is = subst (λ x. MatchOption x ((place : ℕ) → place < count → get_or darts place 0 ≡ dart → ⊥) (IsFollowed darts after count dart)) is m

not_followed : (darts after : List ℕ) (count dart : ℕ) (o : Option ℕ) → MatchOption o ((place : ℕ) → place < count → get_or darts place 0 ≡ dart → ⊥) (IsFollowed darts after count dart)
    → o ≡ None → (place : ℕ) → place < count → get_or darts place 0 ≡ dart → ⊥
not_followed darts after count dart o m is = subst (λ x. MatchOption x ((place : ℕ) → place < count → get_or darts place 0 ≡ dart → ⊥) (IsFollowed darts after count dart)) is m

-- what is told of all darts is the rotation
pub told_rotation : (darts sizes : List ℕ) (followers : List (Option ℕ)) (values : List ℕ) → AreFollowers darts (turned_lines sizes darts) (length darts) followers
    → AreAllTold followers values → CarriesOn darts (turned_lines sizes darts) values
told_rotation darts sizes followers values are told = record {
  size = told.size ∙ are.size;
  each = λ dart h. followed darts (turned_lines sizes darts) (length darts) dart (get_or values dart 0) (get_or followers dart None) (are.each dart h) (told.each dart (omega (arith, are.size)));
}

-- a dart of which nothing is told stands on no line
pub untold_missing : (darts sizes : List ℕ) (followers : List (Option ℕ)) (dart : ℕ) → AreFollowers darts (turned_lines sizes darts) (length darts) followers
    → IsFirstUntold followers dart → IsLeastMissing darts dart
untold_missing darts sizes followers dart are told =
    let within : dart < length darts = omega (arith, told.within, are.size) in
    record {
      within = within;
      breaks = λ stands. not_followed darts (turned_lines sizes darts) (length darts) dart (get_or followers dart None) (are.each dart within) told.untold stands.0 stands.1 (is_at _ _ stands);
      least = λ n less.
          let value = told.before n less in
          let f = followed darts (turned_lines sizes darts) (length darts) n value.0 (get_or followers n None) (are.each n (omega arith)) value.1 in
          contains_at darts n f.place f.within f.here;
    }

-- one dart more, as it is written
pub written_more : (darts after : List ℕ) (count dart next : ℕ) (values : List ℕ) → AreFollowers darts after count (map told_dart values) → count < length darts → get_or darts count 0 < length darts
    → get_or darts count 0 ≡ dart → get_or after count 0 ≡ next → next < 4294967295 → AreFollowers darts after (count + 1) (map told_dart (set values dart next))
written_more darts after count dart next values are h below here is_next small =
    subst (AreFollowers darts after (count + 1))
    (sym (map-set told_dart values dart next ∙ ap (set (map told_dart values) dart) (told_some next small ∙ ap (λ (n : ℕ). Some n) (sym is_next)) ∙ ap (λ d. set (map told_dart values) d (Some (get_or after count 0))) (sym here)))
    (followers_more darts after count (map told_dart values) are h below)

-- nothing is written yet
pub written_none : (darts after : List ℕ) → AreFollowers darts after 0 (map told_dart (replicate (length darts) 4294967295))
written_none darts after = subst (AreFollowers darts after 0) (sym (map-replicate (length darts))) (followers_none darts after) where
  map-replicate : (n : ℕ) → map told_dart (replicate n 4294967295) ≡ replicate n None
  map-replicate zero = refl
  map-replicate (suc n) = ap (λ l. None ∷ l) (map-replicate n)

-- what is written through a slice of a list stands in the list
pub written_back : (len : ℕ) (now new old : List ℕ) → now ≡ take len (new ++ drop (length new) old) → len ≡ length new → now ≡ new
written_back len now new old is size = is ∙ ap (λ n. take n (new ++ drop (length new) old)) size ∙ take-append_seam new (drop (length new) old)
