-- The order of items: by end, then rank, then number.
use Rattle.std.proofs.Common.{◌≡◌, ℕ, ◌≤◌, Bool, true, false, ◌&&◌, ◌||◌, eqb, ltb, refl, arith}
use Rattle.std.proofs.lemmas.Bool.Decides.{nat_tests}
use Rattle.jsp_lease.specs.declared.item.Item.{Item}
use Rattle.jsp_lease.specs.declared.item.Rank.{Rank}
use Rattle.jsp_lease.specs.declared.item.Rank.TheVariants as rank
use Rattle.jsp_lease.specs.Due.{is_before, rank_number}

abbrev lex : ℕ → ℕ → ℕ → ℕ → ℕ → ℕ → Bool
lex e r n e' r' n' = ltb e e' || (eqb e e' && (ltb r r' || (eqb r r' && ltb n n')))

lex_asym : (e r n e' r' n' : ℕ) → lex e r n e' r' n' ≡ true → lex e' r' n' e r n ≡ false
lex_asym e r n e' r' n' h = grind (arith, nat_tests)

lex_total : (e r n e' r' n' : ℕ) → lex e r n e' r' n' ≡ false → lex e' r' n' e r n ≡ false → (e ≡ e') × (r ≡ r') × (n ≡ n')
lex_total e r n e' r' n' h k = (grind (arith, nat_tests), grind (arith, nat_tests), grind (arith, nat_tests))

-- what isn't after the first isn't after the second
lex_below : (e r n e' r' n' e'' r'' n'' : ℕ) → lex e r n e' r' n' ≡ false → lex e' r' n' e'' r'' n'' ≡ false → lex e r n e'' r'' n'' ≡ false
lex_below e r n e' r' n' e'' r'' n'' h k = grind (arith, nat_tests)

rank_same : (a b : Rank) → rank_number a ≡ rank_number b → a ≡ b
rank_same rank.Entry rank.Entry h = refl
rank_same rank.Registration rank.Registration h = refl
rank_same rank.Transaction rank.Transaction h = refl
rank_same rank.Blocked rank.Blocked h = refl
rank_same rank.MatchSet rank.MatchSet h = refl
rank_same _ _ h = absurd (omega arith)

pub asym : (a b : Item) → is_before a b ≡ true → is_before b a ≡ false
asym a b h = lex_asym a.end (rank_number a.rank) a.number b.end (rank_number b.rank) b.number h

abbrev item : ℕ → Rank → ℕ → Item
item e r n = record { end = e; rank = r; number = n }

same_parts : (e e' n n' : ℕ) (r r' : Rank) → e ≡ e' → r ≡ r' → n ≡ n' → item e r n ≡ item e' r' n'
same_parts e e' n n' r r' p q s = rw (p, q, s) refl

pub same : (a b : Item) → is_before a b ≡ false → is_before b a ≡ false → a ≡ b
same a b h k =
    let parts = lex_total a.end (rank_number a.rank) a.number b.end (rank_number b.rank) b.number h k in
    same_parts a.end b.end a.number b.number a.rank b.rank parts.0 (rank_same a.rank b.rank parts.1) parts.2

pub below : (a b c : Item) → is_before a b ≡ false → is_before b c ≡ false → is_before a c ≡ false
below a b c h k = lex_below a.end (rank_number a.rank) a.number b.end (rank_number b.rank) b.number c.end (rank_number c.rank) c.number h k

-- the end comes first
pub end_first : (a b : Item) → is_before a b ≡ false → b.end ≤ a.end
end_first a b h = grind (arith, nat_tests)
