-- What a write to a part of a buffer leaves, as stores one after the other.
-- Assumes nothing.
use Rattle.std.proofs.Common.{◌≡◌, ◌+◌, ◌≤◌, ℕ, List, ◌++◌, length, take, drop, drop-drop, append_assoc, sym, ap, ◌∙◌}
use Rattle.std.proofs.lemmas.List.Edits.{sets, sets-eq}
use borrow.Rule.Slice.PartMut.{put_mid}

pub put_mid_sets : (i k : ℕ) (l vs ws : List ℕ) → ws ≡ vs → k ≡ length vs → i + length vs ≤ length l → put_mid i k l ws ≡ sets l i vs
put_mid_sets i k l vs ws same long room =
    ap (λ (r : List ℕ). put_mid i k l r) same
    ∙ ap (λ (n : ℕ). put_mid i n l vs) long
    ∙ ap (λ (r : List ℕ). take i l ++ (vs ++ r)) (drop-drop (length vs) i l)
    ∙ sym (sets-eq vs l i room ∙ append_assoc (take i l) vs (drop (i + length vs) l))
