-- What is known of the seats of a hall that was opened.
use Rattle.std.proofs.Common.{ℕ, ◌≡◌, List, All, sym, subst, refl}
use Rattle.std.proofs.lemmas.List.Elements.{All-map}
use Rattle.std.specs.List.{range_with_len}
use Rattle.shared_hall.specs.Halls.{HallView, SeatView, fresh, fresh_seats}

pub seats_sit : (hall : HallView) (n : ℕ) (row : List SeatView) → row ≡ fresh_seats hall n → All (λ s. s.hall ≡ hall) row
seats_sit hall n row is = subst (All (λ (s : SeatView). s.hall ≡ hall)) (sym is) (All-map (λ (s : SeatView). s.hall ≡ hall) (fresh hall) (range_with_len 0 n) (λ k d lt. refl))
