-- A node that is played, and the nodes that stay won.
use Rattle.std.proofs.Common.{◌≡◌, ◌≢◌, ℕ, ◌+◌, ◌<◌, List, length, set, Option, ap, sym, ◌∙◌, arith, inl, inr, None, subst}
use Rattle.std.proofs.lemmas.List.{get_or-set_same, get_or-set_other}
use Rattle.std.proofs.lemmas.Bool.{cases_eq}
use Rattle.jsp_lease.specs.declared.item.Item.{Item}
use Rattle.jsp_lease.specs.Tournament.{earlier, node_at, IsWon}

-- a write that concerns neither the node nor those below it
pub won_still : (nodes : List (Option Item)) (k n : ℕ) (v : Option Item) → n ≢ k → n + n ≢ k → n + n + 1 ≢ k → IsWon nodes n → IsWon (set nodes k v) n
won_still nodes k n v a b c won =
    get_or-set_other nodes k n v None a ∙ (won ∙ (ap (λ w. earlier w (node_at nodes (n + n + 1))) (sym (get_or-set_other nodes k (n + n) v None b))
    ∙ ap (λ w. earlier (node_at (set nodes k v) (n + n)) w) (sym (get_or-set_other nodes k (n + n + 1) v None c))))

pub won_now : (nodes : List (Option Item)) (k : ℕ) (v : Option Item) → 0 < k → k < length nodes → v ≡ earlier (node_at nodes (k + k)) (node_at nodes (k + k + 1)) → IsWon (set nodes k v) k
won_now nodes k v some lt is =
    get_or-set_same nodes k v None lt ∙ (is ∙ (ap (λ w. earlier w (node_at nodes (k + k + 1))) (sym (get_or-set_other nodes k (k + k) v None (λ e. omega arith)))
    ∙ ap (λ w. earlier (node_at (set nodes k v) (k + k)) w) (sym (get_or-set_other nodes k (k + k + 1) v None (λ e. omega arith)))))

-- after a node is played, it is won, and so are those that don't stand right above it
pub played : (nodes : List (Option Item)) (k n : ℕ) (v : Option Item) → 0 < k → k < length nodes → v ≡ earlier (node_at nodes (k + k)) (node_at nodes (k + k + 1))
    → n + n ≢ k → n + n + 1 ≢ k → (n ≢ k → IsWon nodes n) → IsWon (set nodes k v) n
played nodes k n v some lt is a b won =
    elim (cases_eq n k) [
      | inl e ↦ subst_won nodes k n v (sym e) (won_now nodes k v some lt is)
      | inr ne ↦ won_still nodes k n v ne a b (won ne)
    ] where
      subst_won : (nodes : List (Option Item)) (k n : ℕ) (v : Option Item) → k ≡ n → IsWon (set nodes k v) k → IsWon (set nodes k v) n
      subst_won nodes k n v e w = subst (λ (m : ℕ). IsWon (set nodes k v) m) e w
