mod NewSockets
