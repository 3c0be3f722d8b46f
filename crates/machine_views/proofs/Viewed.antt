-- The parts of a machine's view make up the view.
use Rattle.std.proofs.Common.{◌≡◌, ℕ, ◌^◌, List, ap, ◌∙◌}
use Rattle.flat_machine.specs.declared.config.Config.{Config}
use Rattle.omega_network.specs.Networks.{NetworkLists, net_of}
use Rattle.machine_steps.specs.Machines.{MachineLists}
use Rattle.machine_views.specs.Places.{each_below, place_views}
use Rattle.machine_views.specs.Views.{processor_view, view_of}
use Rattle.machine_views.specs.declared.view.MachineView.{MachineView}
use Rattle.machine_views.specs.declared.view.PlaceView.{PlaceView}
use Rattle.machine_views.specs.declared.view.ProcessorView.{ProcessorView}

abbrev made : (steps : ℕ) → Config → List ProcessorView → List (List PlaceView) → MachineView
made steps c ps qs = record { config = c; steps = steps; processors = ps; places = qs }

-- A machine's size, the views of its processors and those of its network's places make up its view.
pub viewed : (m : MachineLists) (net : NetworkLists) (steps : ℕ) (c : Config) (ps : List ProcessorView) (qs : List (List PlaceView)) →
    c ≡ m.config → ps ≡ each_below (processor_view m) (2 ^ m.config.k) → net ≡ m.network → qs ≡ place_views (net_of net) net.k →
    m.network.k ≡ m.config.k → made steps c ps qs ≡ view_of m steps
unfolding view_of
viewed m net steps c ps qs config processors network places stages =
    ap (λ (d : Config). made steps d ps qs) config
    ∙ ap (λ (xs : List ProcessorView). made steps m.config xs qs) processors
    ∙ ap (made steps m.config (each_below (processor_view m) (2 ^ m.config.k)))
    (places ∙ ap (λ (n : NetworkLists). place_views (net_of n) n.k) network ∙ ap (place_views (net_of m.network)) stages)
