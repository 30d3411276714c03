-- The winner of many places, and of the nodes above them.
use Rattle.std.proofs.Common.{◌≡◌, ℕ, zero, suc, ◌+◌, ◌-◌, ◌<◌, Bool, true, false, cond, List, [], ◌∷◌, ◌++◌, length, take, drop, get_or, Option, Some, None, refl, ap, sym, ◌∙◌, arith, add-one, append_assoc}
use Rattle.std.specs.Option.{option_map_or}
use Rattle.std.proofs.lemmas.List.{drop_more, take_more, take_all, get_or-drop, length-drop}
use Rattle.jsp_lease.specs.declared.item.Item.{Item}
use Rattle.jsp_lease.specs.Due.{is_before, first_item}
use Rattle.jsp_lease.specs.Tournament.{living, earlier, node_at, IsWon, IsTournament}
use Rattle.jsp_lease.proofs.Order.{asym, same, below}

abbrev least : Item → Item → Item
least a b = cond (is_before b a) b a

comm_at : (x y : Bool) (a b : Item) → is_before b a ≡ x → is_before a b ≡ y → least a b ≡ least b a
comm_at true true a b h k = absurd (cc (asym b a h, k))
comm_at true false a b h k = rw (h, k) refl
comm_at false true a b h k = rw (h, k) refl
comm_at false false a b h k = rw (h, k) (same a b k h)

pub earlier_comm : (a b : Option Item) → earlier a b ≡ earlier b a
earlier_comm None None = refl
earlier_comm None (Some b) = refl
earlier_comm (Some a) None = refl
earlier_comm (Some a) (Some b) = ap Some (comm_at (is_before b a) (is_before a b) a b refl refl)

assoc_at : (x y z : Bool) (a b c : Item) → is_before b a ≡ x → is_before c b ≡ y → is_before c a ≡ z → least (least a b) c ≡ least a (least b c)
assoc_at true true true a b c h k l = simp (h, k, l) refl
assoc_at true true false a b c h k l = absurd (cc (below c a b l (asym b a h), k))
assoc_at true false _ a b c h k l = simp (h, k) refl
assoc_at false true _ a b c h k l = simp (h, k) refl
assoc_at false false true a b c h k l = absurd (cc (below c b a k h, l))
assoc_at false false false a b c h k l = simp (h, k, l) refl

pub earlier_assoc : (a b c : Option Item) → earlier (earlier a b) c ≡ earlier a (earlier b c)
earlier_assoc None b c = refl
earlier_assoc (Some a) None c = refl
earlier_assoc (Some a) (Some b) None = refl
earlier_assoc (Some a) (Some b) (Some c) = ap Some (assoc_at (is_before b a) (is_before c b) (is_before c a) a b c refl refl refl)

earlier_none : (a : Option Item) → earlier a None ≡ a
earlier_none None = refl
earlier_none (Some a) = refl

abbrev pub winner : List (Option Item) → Option Item
winner [] = None
winner (place ∷ places) = earlier place (winner places)

pub first_at : (a : Item) (rest : Option Item) → earlier (Some a) rest ≡ Some (option_map_or (λ b. cond (is_before b a) b a) rest a)
first_at a None = refl
first_at a (Some b) = refl

pub winner_first : (places : List (Option Item)) → winner places ≡ first_item (living places)
winner_first [] = refl
winner_first (None ∷ places) = winner_first places
winner_first (Some a ∷ places) = rw (winner_first places) (first_at a (first_item (living places)))

winner_append : (xs ys : List (Option Item)) → winner (xs ++ ys) ≡ earlier (winner xs) (winner ys)
winner_append [] ys = refl
winner_append (x ∷ xs) ys = rw (winner_append xs ys) (sym (earlier_assoc x (winner xs) (winner ys)))

-- the nodes from n to the one before n + n
abbrev round : List (Option Item) → ℕ → List (Option Item)
round nodes n = take n (drop n nodes)

round_first : (nodes : List (Option Item)) (n : ℕ) → n + 1 < length nodes → round nodes (n + 1) ≡ node_at nodes (n + 1) ∷ take n (drop (n + 1 + 1) nodes)
round_first nodes n lt = rw (drop_more nodes (n + 1) None lt, add-one n) refl

two_more : (xs : List (Option Item)) (n : ℕ) → n + 1 < length xs → take (n + 1 + 1) xs ≡ take n xs ++ (get_or xs n None ∷ get_or xs (n + 1) None ∷ [])
two_more xs n lt =
    let first : n < length xs = omega arith in
    rw (take_more xs (n + 1) None lt, take_more xs n None first) (append_assoc (take n xs) (get_or xs n None ∷ []) (get_or xs (n + 1) None ∷ []))

drop_at : (nodes : List (Option Item)) (n k m : ℕ) → n + k ≡ m → get_or (drop n nodes) k None ≡ node_at nodes m
drop_at nodes n k m e = get_or-drop n nodes k None ∙ ap (λ i. get_or nodes i None) e

-- the nodes of one round have the winner of the nodes of the round below
pub round_up : (nodes : List (Option Item)) (n : ℕ) → n + 1 + (n + 1) + 1 < length nodes → IsWon nodes (n + 1) → winner (round nodes (n + 1)) ≡ winner (round nodes (n + 1 + 1))
round_up nodes n lt won =
    let under = drop (n + 1 + 1) nodes in
    let body = winner (take n under) in
    let a = node_at nodes (n + 1 + (n + 1)) in
    let b = node_at nodes (n + 1 + (n + 1) + 1) in
    let left : winner (round nodes (n + 1)) ≡ earlier (earlier a b) body = ap winner (round_first nodes n (omega arith)) ∙ ap (λ w. earlier w body) won in
    let right : winner (round nodes (n + 1 + 1)) ≡ earlier body (earlier a (earlier b None)) =
    ap winner (two_more under n (omega (arith, length-drop (n + 1 + 1) nodes)))
    ∙ (winner_append (take n under) (get_or under n None ∷ get_or under (n + 1) None ∷ [])
    ∙ (ap (λ w. earlier body (earlier w (earlier (get_or under (n + 1) None) None))) (drop_at nodes (n + 1 + 1) n (n + 1 + (n + 1)) (omega arith))
    ∙ ap (λ w. earlier body (earlier a (earlier w None))) (drop_at nodes (n + 1 + 1) (n + 1) (n + 1 + (n + 1) + 1) (omega arith)))) in
    left ∙ (earlier_comm (earlier a b) body ∙ (ap (λ w. earlier body (earlier a w)) (sym (earlier_none b)) ∙ sym right))

rounds : (nodes : List (Option Item)) (places n : ℕ) → IsTournament places nodes → n < places → winner (round nodes 1) ≡ winner (round nodes (n + 1))
rounds nodes places zero t lt = refl
rounds nodes places (suc n) t lt =
    let up = round_up nodes n (omega (arith, t.size)) (t.won (n + 1) (omega arith) (omega arith)) in
    rounds nodes places n t (omega arith) ∙ (up ∙ ap (λ k. winner (round nodes k)) (omega arith))

first_round : (nodes : List (Option Item)) → 1 < length nodes → winner (round nodes 1) ≡ node_at nodes 1
first_round nodes lt = rw (drop_more nodes 1 None lt) (earlier_none (node_at nodes 1))

-- node 1 has the first item of all places
pub top_first : (nodes : List (Option Item)) (places : ℕ) → IsTournament places nodes → 0 < places → node_at nodes 1 ≡ first_item (living (drop places nodes))
top_first nodes places t some =
    let all : round nodes (places - 1 + 1) ≡ drop places nodes =
    ap (λ k. round nodes k) (omega arith) ∙ take_all places (drop places nodes) (omega (arith, t.size, length-drop places nodes)) in
    sym (first_round nodes (omega (arith, t.size))) ∙ (rounds nodes places (places - 1) t (omega arith) ∙ (ap winner all ∙ winner_first (drop places nodes)))
