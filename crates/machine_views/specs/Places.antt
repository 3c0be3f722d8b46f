-- What the places of a network hold.
use Rattle.std.specs.Prelude.{ℕ, zero, suc, ◌^◌, List, [], Option, map, slice_get}
use Rattle.std.specs.List.{range_with_len}
use Rattle.std.specs.Option.{option_and_then}
use Rattle.messages.specs.declared.message.Record.{Record}
use Rattle.messages.specs.declared.message.Reply.{Reply}
use Rattle.messages.specs.declared.message.Request.{Request}
use Rattle.messages.specs.Network.{Net}
use Rattle.machine_views.specs.Groups.{group_of}
use Rattle.machine_views.specs.declared.view.PlaceView.{PlaceView}
use Rattle.machine_views.specs.declared.view.ReplyView.{ReplyView}
use Rattle.machine_views.specs.declared.view.RequestView.{RequestView}

-- an item for each number below a count, in order
abbrev pub each_below : {A : Type 0} → (item_at : ℕ → A) → (count : ℕ) → List A
each_below item_at count = map item_at (range_with_len 0 count)

abbrev pub request_view : Net → (wires depth : ℕ) → Request → RequestView
request_view net wires d x = record { request = x; group = group_of net wires d x.leader }

abbrev pub reply_view : Net → (wires depth : ℕ) → Reply → ReplyView
reply_view net wires d y = record { reply = y; group = group_of net wires d y.leader }

-- the wait buffer of the output that goes to a place
abbrev pub records_before : Net → (depth wire : ℕ) → List Record
records_before net zero w = []
records_before net (suc s) w = net.records s w

-- all that the place at a depth and a wire holds
abbrev pub place_view : Net → (wires depth wire : ℕ) → PlaceView
place_view net wires d w = record {
  requests = map (request_view net wires d) (net.requests d w);
  records = records_before net d w;
  replies = map (reply_view net wires d) (net.replies d w);
}

-- the places of a depth, by wire, in a network of k stages
abbrev pub places_at : Net → (k depth : ℕ) → List PlaceView
places_at net k d = each_below (place_view net (2 ^ k) d) (2 ^ k)

-- all places, by depth
abbrev pub place_views : Net → (k : ℕ) → List (List PlaceView)
place_views net k = each_below (places_at net k) (suc k)

-- the view of the place at this depth and wire, if there is one
abbrev pub place_at : List (List PlaceView) → (depth wire : ℕ) → Option PlaceView
place_at places d w = option_and_then (λ (wires : List PlaceView). slice_get wires w) (slice_get places d)
