-- Ports at the start of a run.
use Rattle.pd_setup.specs.Settings.{SettingsData}
use Rattle.pd_port.specs.Port.{PortData, detached}
use Rattle.pd_scenario.specs.Plan.{no_settings}

-- a port at the start
abbrev pub start_of : SettingsData → PortData
start_of s = record { settings = s; port_record = detached s }

-- stands where there is no port
abbrev pub no_port : PortData
no_port = start_of no_settings
